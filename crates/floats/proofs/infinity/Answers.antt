-- `floats::infinity`: the bits are no NaN's, and are plus infinity's. Assumes nothing.
use mathlib.Core.Path.{refl}
use lib.Ieee.{of_bits, nan_bits}
use Rattle.floats.proofs.infinity.Goals as goal

pub float_from_bits-result : goal.float_from_bits-result
unfolding nan_bits
float_from_bits-result c = tt

pub returns : goal.returns
unfolding of_bits
returns c = refl
