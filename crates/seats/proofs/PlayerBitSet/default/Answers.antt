-- `seats::PlayerBitSet::default`: the set of zero. Assumes nothing.
use mathlib.Core.Path.{refl}
use Rattle.seats.proofs.PlayerBitSet.default.Goals as goal

pub returns : goal.returns
returns c = refl
