-- `table::GameState::advance_round`: each return by its tests. Assumes nothing.
use mathlib.Core.Path.{sym, ◌∙◌}
use Rattle.table.specs.Rounds.{advance_of}
use Rattle.table.proofs.Alike.{is-complete}
use Rattle.table.proofs.GameState.advance_round.Goals as goal

pub returns-then-eq : goal.returns-then-eq
unfolding advance_of
returns-then-eq c =
    simp (sym c.is_sound.ensures ∙ c.if-is_sound.true, sym (c.eq.ensures ∙ is-complete c.args.self.round) ∙ c.if-eq.true)

pub returns-then-is_sound : goal.returns-then-is_sound
unfolding advance_of
returns-then-is_sound c =
    simp (sym c.is_sound.ensures ∙ c.if-is_sound.true, sym (c.eq.ensures ∙ is-complete c.args.self.round) ∙ c.if-eq.false, c.advance_normal.ensures)

pub returns : goal.returns
unfolding advance_of
returns c =
    simp (sym c.is_sound.ensures ∙ c.if-is_sound.false)
