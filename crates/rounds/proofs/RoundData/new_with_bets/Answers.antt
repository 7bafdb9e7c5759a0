-- `rounds::RoundData::new_with_bets`: each arm by the test of what is to be made. Assumes nothing.
use lib.Ieee.{of_bits}
use mathlib.Core.Path.{sym, ◌∙◌}
use Rattle.rounds.specs.Steps.{with_bets_of}
use Rattle.rounds.proofs.RoundData.new_with_bets.Goals as goal

pub returns-then-is_sound : goal.returns-then-is_sound
unfolding with_bets_of of_bits
returns-then-is_sound c = simp (sym c.is_sound.ensures ∙ c.if-is_sound.true, c.largest.ensures, c.count_above_zero-count.ensures, c.of_slice-bets.ensures)

pub returns : goal.returns
unfolding with_bets_of
returns c = simp (sym c.is_sound.ensures ∙ c.if-is_sound.false, c.none.ensures, c.into.ensures)
