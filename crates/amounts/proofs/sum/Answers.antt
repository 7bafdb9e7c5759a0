-- `amounts::sum`: after so many turns the result is that of the first so many. Assumes nothing.
use native.Mathlib.Omega.{arith}
use mathlib.Core.Path.{refl, ap, ◌∙◌}
use lib.Ieee.{binary32, add, of_bits}
use Rattle.amounts.specs.Amounts.{sum_of}
use Rattle.amounts.proofs.Folds.{taken, taken-end, sum-next}
use Rattle.amounts.proofs.sum.Goals as goal

pub loop-x-init : goal.loop-x-init
unfolding of_bits sum_of
loop-x-init c = refl

pub loop-x-preserved : goal.loop-x-preserved
unfolding of_bits
loop-x-preserved c =
    ap (add binary32 c.loop-x.total) (taken c.args.list c.min.result c.loop-x.x-index c.loop-x-test.true)
    ∙ sum-next _ _ _ c.loop-x.invariant

pub returns : goal.returns
returns c = taken-end c.args.list c.min.result sum_of _ _ _ c.loop-x.invariant c.loop-x.auto.x-index-end c.loop-x-test.false c.min.ensures (omega (arith, c.well_formed))
