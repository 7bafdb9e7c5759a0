-- `settlement::paying::counted`: each turn fills one place more. Assumes nothing.
use Rattle.std.proofs.Common.{◌≡◌, arith}
use Rattle.commons.proofs.Filled.{filled_none, filled_next}
use Rattle.settlement.specs.Hand.{counted_of}
use Rattle.settlement.proofs.paying.counted.Goals as goal

pub loop-i-init : goal.loop-i-init
loop-i-init c = (omega arith, filled_none _ _)

pub loop-i-preserved : goal.loop-i-preserved
loop-i-preserved c = (omega arith, filled_next _ _ _ _ _ c.loop-i.invariant.1 c.chips_in.ensures)

pub returns : goal.returns
unfolding counted_of
returns c =
    let e : c.loop-i.i ≡ 16 = omega arith in
    rw e at c.loop-i.invariant.1
