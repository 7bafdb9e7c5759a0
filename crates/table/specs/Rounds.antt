-- R3.10 to R3.13: advancing and completing a record. Definitions only.
use Rattle.std.specs.Prelude.{ℕ, ◌+◌, Bool, cond, ◌&&◌, eqb}
use Rattle.floats.specs.Helpers.{zerof}
use Rattle.amounts.specs.Amounts.{cleared_to}
use Rattle.seats.specs.Set.{of_bits}
use Rattle.rounds.specs.declared.Round.{Round}
use Rattle.rounds.specs.declared.Round.TheVariants.{Complete}
use Rattle.rounds.specs.declared.RoundData.{RoundData}
use Rattle.rounds.specs.declared.walking.Reached.{Reached}
use Rattle.rounds.specs.Order.{next_of, round_number}
use Rattle.rounds.specs.Walk.{walk_of}
use Rattle.rounds.specs.With.{data_of}
use Rattle.table.specs.declared.GameState.{GameState}
use Rattle.table.specs.declared.TableStep.{TableStep}
use Rattle.table.specs.Answers.{done, step_by, sound_rows}
use Rattle.table.specs.With.{with_round}

-- R3.1: a round by its number
abbrev pub is_round : Round → ℕ → Bool
is_round r k = eqb (round_number r) k

-- R3.11: new round data: these seats owe and are active at its start, m is the big blind, no bets below n, the places from n on as they were
abbrev pub fresh_data : GameState → ℕ → ℕ → RoundData
fresh_data t active to =
    data_of (of_bits active) (of_bits active) t.big_blind zerof (cleared_to t.num_players t.round_data.player_bet) t.num_players 0 0 0 to

-- R3.12: the first turn: one walk from the dealer, two where two seats come to Preflop; where it ends, and the seats passed to in all
abbrev pub walk_on : ℕ → ℕ → Reached → Reached
walk_on owing n w = record { seat = (walk_of owing n w.seat).seat; passed = w.passed + (walk_of owing n w.seat).passed }

unfoldable pub first_turn : Bool → ℕ → ℕ → ℕ → Reached
first_turn twice owing n dealer = cond twice (walk_on owing n (walk_of owing n dealer)) (walk_of owing n dealer)

abbrev pub heads_up_preflop : GameState → Bool
heads_up_preflop t = is_round (next_of t.round) 3 && eqb t.num_players 2

abbrev pub opening_turn : GameState → Reached
opening_turn t = first_turn (heads_up_preflop t) t.player_active.set t.num_players t.dealer_idx

-- R3.10: the next round
abbrev pub advanced_step : GameState → TableStep
advanced_step t =
    done (opening_turn t).passed (with_round t (next_of t.round) t.round (fresh_data t t.player_active.set (opening_turn t).seat))

-- R3.10: past Complete there is none, and nothing changes
unfoldable pub advance_of : GameState → TableStep
advance_of t = step_by (sound_rows t) t (cond (is_round t.round 11) (done 0 t) (advanced_step t))

-- R3.13: Complete, with new round data in which nobody owes or is active, and the dealer's turn; where it is Complete already, nothing changes
abbrev pub completed_step : GameState → TableStep
completed_step t = done 0 (with_round t Complete t.round (fresh_data t 0 t.dealer_idx))

unfoldable pub complete_of : GameState → TableStep
complete_of t = step_by (sound_rows t) t (cond (is_round t.round 11) (done 0 t) (completed_step t))
