-- `seats::PlayerBitSet::bitand`: the digits are joined as the definition joins them. Assumes nothing.
use mathlib.Core.Path.{refl}
use Rattle.seats.proofs.PlayerBitSet.bitand.Goals as goal

pub returns : goal.returns
returns c = refl
