-- `rounds::paying::is_raise`: the test is the definition's. Assumes nothing.
use mathlib.Core.Path.{refl}
use Rattle.rounds.proofs.paying.is_raise.Goals as goal

pub returns : goal.returns
returns c = refl
