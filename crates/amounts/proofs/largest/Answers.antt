-- `amounts::largest`: after so many turns the result is that of the first so many. Assumes nothing.
use native.Mathlib.Omega.{arith}
use mathlib.Core.Path.{refl, ap, ◌∙◌}
use lib.Ieee.{of_bits}
use Rattle.floats.specs.Helpers.{max_of}
use Rattle.amounts.specs.Amounts.{largest_of}
use Rattle.amounts.proofs.Folds.{taken, taken-end, largest-next}
use Rattle.amounts.proofs.largest.Goals as goal

pub loop-x-init : goal.loop-x-init
unfolding of_bits largest_of
loop-x-init c = refl

pub loop-x-preserved : goal.loop-x-preserved
unfolding of_bits
loop-x-preserved c =
    largest-next _ _ _ _ c.loop-x.invariant (c.max-top.ensures ∙ ap (max_of c.loop-x.top) (taken c.args.list c.min.result c.loop-x.x-index c.loop-x-test.true))

pub returns : goal.returns
returns c = taken-end c.args.list c.min.result largest_of _ _ _ c.loop-x.invariant c.loop-x.auto.x-index-end c.loop-x-test.false c.min.ensures (omega (arith, c.well_formed))
