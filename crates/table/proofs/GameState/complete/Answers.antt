-- `table::GameState::complete`: each return by its tests. Assumes nothing.
use mathlib.Core.Path.{sym, ◌∙◌}
use Rattle.table.specs.Rounds.{complete_of}
use Rattle.table.proofs.Alike.{is-complete}
use Rattle.table.proofs.GameState.complete.Goals as goal

pub returns-then-eq : goal.returns-then-eq
unfolding complete_of
returns-then-eq c =
    simp (sym c.is_sound.ensures ∙ c.if-is_sound.true, sym (c.eq.ensures ∙ is-complete c.args.self.round) ∙ c.if-eq.true)

pub returns-then-is_sound : goal.returns-then-is_sound
unfolding complete_of
returns-then-is_sound c =
    simp (sym c.is_sound.ensures ∙ c.if-is_sound.true, sym (c.eq.ensures ∙ is-complete c.args.self.round) ∙ c.if-eq.false, c.completed.ensures)

pub returns : goal.returns
unfolding complete_of
returns c =
    simp (sym c.is_sound.ensures ∙ c.if-is_sound.false)
