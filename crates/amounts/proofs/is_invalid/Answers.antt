-- `amounts::is_invalid`: the code's 0.0 is the definition's. Assumes nothing.
use lib.Ieee.{of_bits}
use Rattle.amounts.proofs.is_invalid.Goals as goal

pub returns : goal.returns
unfolding of_bits
returns c = rw c.is_nan.ensures
