-- R9.4 to R9.6: what the record's queries answer; none refuses. Definitions only.
use Rattle.std.specs.Prelude.{ℕ, Bool, cond, ◌&&◌, ◌||◌, List, eqb, leb, ltb, get_or, Float}
use Rattle.std.specs.Float.{nan}
use Rattle.floats.specs.Helpers.{zerof}
use Rattle.seats.specs.Bits.{count_to}
use Rattle.table.specs.declared.GameState.{GameState}
use Rattle.table.specs.Rounds.{is_round}

-- R9.6: what stands at a seat of a list of so many; 0.0 outside it
unfoldable pub at_seat : ℕ → List Float → ℕ → Float
at_seat len l i = cond (ltb i len && ltb i 16) (get_or l i nan) zerof

-- R9.4: told, and nothing is refused for it
abbrev pub is_capped : GameState → Bool
is_capped t = t.has_max_raises && leb t.max_raises_per_round t.round_data.total_raise_count

-- R9.5: one active seat and no more, or the last round
abbrev pub is_complete : GameState → Bool
is_complete t = eqb (count_to 16 t.player_active.set) 1 || is_round t.round 11

-- R9.6: a round bet goes by the length of the round's list, a stack by n
abbrev pub round_bet_at : GameState → ℕ → Float
round_bet_at t i = at_seat t.round_data.player_bet_len t.round_data.player_bet i
