-- `rounds::RoundData::new`: each arm by the test of what is to be made. Assumes nothing.
use lib.Ieee.{of_bits}
use mathlib.Core.Path.{sym, ◌∙◌}
use Rattle.rounds.specs.Steps.{new_of}
use Rattle.rounds.proofs.RoundData.new.Goals as goal

pub returns-then-is_sound : goal.returns-then-is_sound
unfolding new_of of_bits
returns-then-is_sound c = simp (sym c.is_sound.ensures ∙ c.if-is_sound.true)

pub returns : goal.returns
unfolding new_of
returns c = simp (sym c.is_sound.ensures ∙ c.if-is_sound.false, c.none.ensures, c.into.ensures)
