-- `seats::PlayerBitSet::empty`: the test is the definition's. Assumes nothing.
use mathlib.Core.Path.{refl}
use Rattle.seats.proofs.PlayerBitSet.empty.Goals as goal

pub returns : goal.returns
returns c = refl
