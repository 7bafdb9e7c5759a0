-- `settlement::paying::with_awards`: each turn raises one place more. Assumes nothing.
use Rattle.std.proofs.Common.{ℕ, ◌≡◌, ◌∙◌, length, ap, arith}
use lib.ListN.{take}
use lib.Ieee.{Float, nan}
use Rattle.std.proofs.lemmas.List.{length_push}
use Rattle.std.proofs.lemmas.Iterator.{YieldsList-from_slice, YieldsList-from_zip}
use Rattle.std.proofs.lemmas.Iterator.Consumers.{YieldsList-at, YieldsList-from_enumerate}
use Rattle.commons.proofs.Filled.{filled_none, filled_next}
use Rattle.commons.proofs.Slices.{front, zipped, counted, at_turn, at_end}
use Rattle.settlement.specs.Settlement.{raised, raised_all}
use Rattle.settlement.proofs.paying.with_awards.Goals as goal

pub loop-i-init : goal.loop-i-init
loop-i-init c = filled_none _ _

pub loop-i-preserved : goal.loop-i-preserved
loop-i-preserved c =
    let a = c.args in
    let turn =
    at_turn (counted (zipped (front nan a.l a.n (omega arith)) (front 0 a.awards a.n (omega arith))))
    (YieldsList-at c.into_iter-i-iterator.ensures.into_iter_gives (YieldsList-from_enumerate (YieldsList-at c.enumerate-i-items.ensures.source (YieldsList-from_zip (YieldsList-from_slice (take a.n a.l) cc) (YieldsList-from_slice (take a.n a.awards) cc))) c.enumerate-i-items.ensures.count))
    c.loop-i.yielded _ c.loop-i.yielded_by _ c.next.new.self (c.in-Some.i, (c.in-Some.x, c.in-Some.award)) c.in-Some.is c.next.ensures.steps in
    let here : c.in-Some.i ≡ length c.loop-i.yielded = ap (λ (p : ℕ × (Float × ℕ)). p.0) turn.1 in
    rw (length_push c.loop-i.yielded (c.in-Some.i, (c.in-Some.x, c.in-Some.award)), here)
    (filled_next _ _ _ _ _ c.loop-i.invariant (c.with_award.ensures ∙ ap (λ (p : ℕ × (Float × ℕ)). raised p.1.0 p.1.1) turn.1))

pub returns : goal.returns
unfolding raised_all
returns c =
    let a = c.args in
    let end =
    at_end (counted (zipped (front nan a.l a.n (omega arith)) (front 0 a.awards a.n (omega arith))))
    (YieldsList-at c.into_iter-i-iterator.ensures.into_iter_gives (YieldsList-from_enumerate (YieldsList-at c.enumerate-i-items.ensures.source (YieldsList-from_zip (YieldsList-from_slice (take a.n a.l) cc) (YieldsList-from_slice (take a.n a.awards) cc))) c.enumerate-i-items.ensures.count))
    c.loop-i.yielded _ c.loop-i.yielded_by _ c.next.new.self c.in-None.is c.next.ensures.steps in
    rw end at c.loop-i.invariant
