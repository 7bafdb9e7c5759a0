-- `amounts::count_above_zero`: after so many turns the result is that of the first so many. Assumes nothing.
use mathlib.Core.Path.{◌≡◌}
use Rattle.amounts.specs.Amounts.{above_of}
use Rattle.amounts.proofs.count_above_zero.Given as goal

abbrev pub invariant-loop-x : goal.invariant-loop-x
invariant-loop-x l = l.count ≡ above_of l.x-index l.fn.list
