-- `rounds::RoundData::none`: the code's 0.0 is the definition's. Assumes nothing.
use mathlib.Core.Path.{refl}
use lib.Ieee.{of_bits}
use Rattle.rounds.proofs.RoundData.none.Goals as goal

pub returns : goal.returns
unfolding of_bits
returns c = refl
