-- `amounts::sum`: after so many turns the result is that of the first so many. Assumes nothing.
use mathlib.Core.Path.{◌≡◌}
use Rattle.amounts.specs.Amounts.{sum_of}
use Rattle.amounts.proofs.sum.Given as goal

abbrev pub invariant-loop-x : goal.invariant-loop-x
invariant-loop-x l = l.total ≡ sum_of l.x-index l.fn.list
