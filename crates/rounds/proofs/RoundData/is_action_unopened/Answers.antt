-- `rounds::RoundData::is_action_unopened`: the test is the definition's. Assumes nothing.
use mathlib.Core.Path.{refl}
use Rattle.rounds.proofs.RoundData.is_action_unopened.Goals as goal

pub returns : goal.returns
returns c = refl
