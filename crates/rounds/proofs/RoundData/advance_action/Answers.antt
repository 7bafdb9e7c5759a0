-- `rounds::RoundData::advance_action`: each arm by the test of the data. Assumes nothing.
use mathlib.Core.Path.{sym, ◌∙◌}
use Rattle.rounds.specs.Steps.{advance_of}
use Rattle.rounds.proofs.RoundData.advance_action.Goals as goal

pub returns-then-is_sound : goal.returns-then-is_sound
unfolding advance_of
returns-then-is_sound c = simp (sym c.is_sound.ensures ∙ c.if-is_sound.true, c.walk-w.ensures)

pub returns : goal.returns
unfolding advance_of
returns c = simp (sym c.is_sound.ensures ∙ c.if-is_sound.false, c.into.ensures)
