-- `bets::too_small`: the test is the definition's. Assumes nothing.
use mathlib.Core.Path.{refl}
use Rattle.bets.proofs.too_small.Goals as goal

pub returns : goal.returns
returns c = refl
