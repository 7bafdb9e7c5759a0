-- `layers::paid_out`: each turn pays the layer under u, and goes on at the level below until there is none. Assumes nothing.
use native.Mathlib.Omega.{arith}
use Rattle.layers.proofs.Payable.{payable}
use Rattle.layers.proofs.Paying.{starts, falls, enough, amount-le, asked, goes_on, ends}
use Rattle.layers.proofs.paid_out.Goals as goal

pub new-seated-requires : goal.new-seated-requires
new-seated-requires c = (payable _ c.requires).few

pub loop-seated-init : goal.loop-seated-init
loop-seated-init c = starts _ c.requires _ _ (rw c.new-seated.ensures at c.level_below-u.ensures) (rw c.new-seated.ensures at c.put_in-held.ensures)

pub overflow_sub-amount : goal.overflow_sub-amount
overflow_sub-amount c =
    enough _ c.loop-seated.invariant (rw c.new-seated.ensures at c.level_below-l.ensures) (rw c.new-seated.ensures at c.put_in-low.ensures)

pub overflow_cast-amount : goal.overflow_cast-amount
overflow_cast-amount c =
    omega (arith, amount-le _ c.loop-seated.invariant (rw c.new-seated.ensures at c.level_below-l.ensures) (rw c.new-seated.ensures at c.put_in-low.ensures))

pub shared-more-requires : goal.shared-more-requires
shared-more-requires c = let t' = asked _ c.loop-seated.invariant (rw c.new-seated.ensures at c.level_below-l.ensures) (rw c.new-seated.ensures at c.put_in-low.ensures) (rw c.new-seated.ensures at c.winners-winners.ensures) in record { n_bound = t'.0; set_nonzero = t'.1.0; amount_bound = t'.1.1.0; by_index = t'.1.1.1 }

pub returns-then-l-eq0 : goal.returns-then-l-eq0
returns-then-l-eq0 c =
    ends _ c.loop-seated.invariant (rw c.new-seated.ensures at c.level_below-l.ensures) (rw c.new-seated.ensures at c.put_in-low.ensures) (rw c.new-seated.ensures at c.winners-winners.ensures)
    _ c.shared-more.ensures c.if-l-eq0.true

pub loop-seated-smaller : goal.loop-seated-smaller
loop-seated-smaller c = falls _ _ _ c.level_below-l.ensures c.if-l-eq0.false

pub loop-seated-preserved : goal.loop-seated-preserved
loop-seated-preserved c =
    goes_on _ c.loop-seated.invariant (rw c.new-seated.ensures at c.level_below-l.ensures) (rw c.new-seated.ensures at c.put_in-low.ensures) (rw c.new-seated.ensures at c.winners-winners.ensures)
    _ c.shared-more.ensures c.if-l-eq0.false
