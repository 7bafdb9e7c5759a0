-- `floats::is_near_zero`: the constant is the definition's, and abs gives what stands before it. Assumes nothing.
use lib.Ieee.{of_bits}
use Rattle.floats.specs.Helpers.{near_zero}
use Rattle.floats.proofs.is_near_zero.Goals as goal

pub returns : goal.returns
unfolding near_zero of_bits
returns c = rw c.abs.ensures
