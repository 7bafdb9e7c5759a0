-- `amounts::largest`: after so many turns the result is that of the first so many. Assumes nothing.
use mathlib.Core.Path.{◌≡◌}
use Rattle.amounts.specs.Amounts.{largest_of}
use Rattle.amounts.proofs.largest.Given as goal

abbrev pub invariant-loop-x : goal.invariant-loop-x
invariant-loop-x l = l.top ≡ largest_of l.x-index l.fn.list
