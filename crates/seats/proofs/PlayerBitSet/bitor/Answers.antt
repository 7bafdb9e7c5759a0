-- `seats::PlayerBitSet::bitor`: the digits are joined as the definition joins them. Assumes nothing.
use mathlib.Core.Path.{refl}
use Rattle.seats.proofs.PlayerBitSet.bitor.Goals as goal

pub returns : goal.returns
returns c = refl
