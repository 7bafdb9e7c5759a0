-- `rounds::RoundData::current_player_bet`: each arm by the test of the data. Assumes nothing.
use native.Mathlib.Omega.{arith}
use mathlib.Core.Path.{sym, ◌∙◌}
use Rattle.rounds.specs.Steps.{current_bet}
use Rattle.rounds.proofs.Sound.{sound}
use Rattle.rounds.proofs.RoundData.current_player_bet.Goals as goal

pub offset_bounds-self-at : goal.offset_bounds-self-at
offset_bounds-self-at c = omega (arith, (sound _ _ _ (sym c.is_sound.ensures ∙ c.if-is_sound.true)).place)

pub bounds-self-at : goal.bounds-self-at
bounds-self-at c = (sound _ _ _ (sym c.is_sound.ensures ∙ c.if-is_sound.true)).place

pub returns-then-is_sound : goal.returns-then-is_sound
unfolding current_bet
returns-then-is_sound c = simp (sym c.is_sound.ensures ∙ c.if-is_sound.true)

pub returns-else-is_sound : goal.returns-else-is_sound
unfolding current_bet
returns-else-is_sound c = simp (sym c.is_sound.ensures ∙ c.if-is_sound.false, c.into.ensures)
