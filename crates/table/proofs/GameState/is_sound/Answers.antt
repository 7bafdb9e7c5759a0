-- `table::GameState::is_sound`: the frame is tested. Assumes nothing.
use mathlib.Core.Path.{ap, ◌∙◌}
use Rattle.table.specs.Sound.{sound_frame}
use Rattle.table.proofs.GameState.is_sound.Goals as goal

pub returns : goal.returns
returns c = c.is_sound.ensures ∙ ap sound_frame c.frame.ensures
