-- `layers::part::count_below`: the ones of the number that has only the seats below k. Assumes nothing.
use mathlib.Core.Path.{◌∙◌}
use native.Mathlib.Omega.{arith}
use lib.Bits.{bit_and}
use Rattle.layers.proofs.Seats.{count_masked, count-le}
use Rattle.layers.proofs.part.count_below.Goals as goal

pub overflow_cast-result : goal.overflow_cast-result
overflow_cast-result c = record { fits = omega (arith, c.count.ensures, count-le 16 (bit_and c.args.set c.up_to.result)) }

pub returns : goal.returns
returns c = c.count.ensures ∙ rw c.up_to.ensures (count_masked _ _ c.requires)
