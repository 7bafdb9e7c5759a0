-- `bets::doesnt_call_self`: the test is the definition's. Assumes nothing.
use mathlib.Core.Path.{refl}
use Rattle.bets.proofs.doesnt_call_self.Goals as goal

pub returns : goal.returns
returns c = refl
