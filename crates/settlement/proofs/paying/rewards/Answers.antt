-- `settlement::paying::rewards`: each turn fills one place more with a difference of at most 8,000 chips. Assumes nothing.
use Rattle.std.proofs.Common.{ℕ, ◌≡◌, ◌∙◌, length, ap, arith}
use lib.ListN.{take}
use lib.Ieee.{Float, nan}
use Rattle.std.proofs.lemmas.List.{length_push}
use Rattle.std.proofs.lemmas.Iterator.{YieldsList-from_slice, YieldsList-from_zip}
use Rattle.std.proofs.lemmas.Iterator.Consumers.{YieldsList-at, YieldsList-from_enumerate}
use Rattle.commons.proofs.Filled.{filled_none, filled_next}
use Rattle.commons.proofs.Slices.{front, zipped, counted, at_turn, at_end}
use Rattle.chips.specs.Whole.{chips_in}
use Rattle.chips.proofs.Whole.{chips-le}
use Rattle.settlement.specs.Settlement.{rewards_of}
use Rattle.settlement.proofs.Signed.{less-kept}
use Rattle.settlement.proofs.paying.rewards.Goals as goal

pub loop-i-init : goal.loop-i-init
loop-i-init c = filled_none _ _

pub less-requires : goal.less-requires
less-requires c = record { a_bound = rw c.chips_in.ensures (chips-le _); b_bound = rw c.chips_in-in-loop-i.ensures (chips-le _) }

pub loop-i-preserved : goal.loop-i-preserved
loop-i-preserved c =
    let a = c.args in
    let turn =
    at_turn (counted (zipped (front nan a.stacks a.n (omega arith)) (front nan a.starting a.n (omega arith))))
    (YieldsList-at c.into_iter-i-iterator.ensures.into_iter_gives (YieldsList-from_enumerate (YieldsList-at c.enumerate-i-items.ensures.source (YieldsList-from_zip (YieldsList-from_slice (take a.n a.stacks) cc) (YieldsList-from_slice (take a.n a.starting) cc))) c.enumerate-i-items.ensures.count))
    c.loop-i.yielded _ c.loop-i.yielded_by _ c.next.new.self (c.in-Some.i, (c.in-Some.stack, c.in-Some.start)) c.in-Some.is c.next.ensures.steps in
    let here : c.in-Some.i ≡ length c.loop-i.yielded = ap (λ (p : ℕ × (Float × Float)). p.0) turn.1 in
    rw (length_push c.loop-i.yielded (c.in-Some.i, (c.in-Some.stack, c.in-Some.start)), here)
    (filled_next _ _ _ _ _ c.loop-i.invariant
    (less-kept (chips-le _) (chips-le _) _ _ _ c.less.ensures
    (c.chips_in.ensures ∙ ap (λ (p : ℕ × (Float × Float)). chips_in p.1.0) turn.1)
    (c.chips_in-in-loop-i.ensures ∙ ap (λ (p : ℕ × (Float × Float)). chips_in p.1.1) turn.1)))

pub returns : goal.returns
unfolding rewards_of
returns c =
    let a = c.args in
    let end =
    at_end (counted (zipped (front nan a.stacks a.n (omega arith)) (front nan a.starting a.n (omega arith))))
    (YieldsList-at c.into_iter-i-iterator.ensures.into_iter_gives (YieldsList-from_enumerate (YieldsList-at c.enumerate-i-items.ensures.source (YieldsList-from_zip (YieldsList-from_slice (take a.n a.stacks) cc) (YieldsList-from_slice (take a.n a.starting) cc))) c.enumerate-i-items.ensures.count))
    c.loop-i.yielded _ c.loop-i.yielded_by _ c.next.new.self c.in-None.is c.next.ensures.steps in
    rw end at c.loop-i.invariant
