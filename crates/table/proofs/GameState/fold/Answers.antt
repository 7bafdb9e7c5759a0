-- `table::GameState::fold`: both ways to the exit by the test of the record. Assumes nothing.
use mathlib.Core.Path.{sym, ◌∙◌}
use Rattle.table.specs.Pay.{fold_of}
use Rattle.table.proofs.GameState.fold.Goals as goal

pub returns-then-is_sound : goal.returns-then-is_sound
unfolding fold_of
returns-then-is_sound c =
    simp (sym c.is_sound.ensures ∙ c.if-is_sound.true, c.without-active.ensures, c.walk-w.ensures, c.without-owed.ensures)

pub returns-else-is_sound : goal.returns-else-is_sound
unfolding fold_of
returns-else-is_sound c =
    simp (sym c.is_sound.ensures ∙ c.if-is_sound.false)
