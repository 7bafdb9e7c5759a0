-- `table::GameState::awarded`: each list is stored as the definition says. Assumes nothing.
use mathlib.Core.Path.{refl}
use Rattle.table.proofs.GameState.awarded.Goals as goal

pub returns : goal.returns
returns c = refl
