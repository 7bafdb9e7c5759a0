-- `builder::checks::card_fault`: no card before place i is at fault, so that the first fault is that of the cards from i on. Assumes nothing.
use Prim.Native.Nat.{◌-◌, ◌≤◌, ◌<◌, min}
use native.Mathlib.Omega.{arith}
use mathlib.Core.Path.{◌≡◌, sym, ◌∙◌}
use lib.ListN.{length}
use Rattle.std.proofs.lemmas.List.{get_or-take}
use Rattle.std.proofs.Common.{rules}
use Rattle.builder.proofs.Building.{bad-card, seen-card, good-card, no-cards, seen_any}
use Rattle.builder.proofs.checks.card_fault.Goals as goal

pub loop-i-init : goal.loop-i-init
loop-i-init c = let z : min c.args.len 5 - 0 ≡ min c.args.len 5 = omega arith in rw z

pub returns-then-card-ge52 : goal.returns-then-card-ge52
returns-then-card-ge52 c =
    let h : c.loop-i.i < min c.args.len 5 = search rules in
    let e = get_or-take c.min.result c.args.list c.loop-i.i 0 (search rules) in
    rw c.into.ensures (bad-card c.args.list _ c.loop-i.i _ h e c.if-card-ge52.true ∙ sym c.loop-i.invariant)

pub returns-then-contains : goal.returns-then-contains
returns-then-contains c =
    let h : c.loop-i.i < min c.args.len 5 = search rules in
    let k : c.loop-i.i ≤ length c.args.list = search rules in
    let e = get_or-take c.min.result c.args.list c.loop-i.i 0 (search rules) in
    let s = sym (seen_any c.args.list _ c.loop-i.i k) ∙ sym c.contains.ensures.value ∙ c.if-contains.true in
    rw c.into-then-contains.ensures (seen-card c.args.list _ c.loop-i.i _ h e c.if-card-ge52.false s ∙ sym c.loop-i.invariant)

pub loop-i-preserved : goal.loop-i-preserved
loop-i-preserved c =
    let h : c.loop-i.i < min c.args.len 5 = search rules in
    let k : c.loop-i.i ≤ length c.args.list = search rules in
    let e = get_or-take c.min.result c.args.list c.loop-i.i 0 (search rules) in
    let s = sym (seen_any c.args.list _ c.loop-i.i k) ∙ sym c.contains.ensures.value ∙ c.if-contains.false in
    c.loop-i.invariant ∙ good-card c.args.list _ c.loop-i.i _ h e c.if-card-ge52.false s

pub returns : goal.returns
returns c =
    let h : min c.args.len 5 ≤ c.loop-i.i = search rules in
    sym (c.loop-i.invariant ∙ no-cards _ _ _ h)
