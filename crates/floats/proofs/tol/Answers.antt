-- `floats::tol`: the two constants are the definition's. Assumes nothing.
use lib.Ieee.{of_bits}
use Rattle.floats.specs.Helpers.{tol_of}
use mathlib.Core.Path.{refl}
use Rattle.floats.proofs.tol.Goals as goal

pub returns : goal.returns
unfolding tol_of of_bits
returns c = refl
