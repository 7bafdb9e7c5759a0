-- R15.9: what is asked of the table in a host's lists, and told in others. Definitions only.
use Rattle.std.specs.Prelude.{Result, Err}
use Rattle.refusals.specs.declared.Refusal.{Refusal}
use Rattle.refusals.specs.Rows.{verdict_number}
use Rattle.std.specs.Prelude.{ℕ, Bool, cond, ◌&&◌, List, [], ◌∷◌, leb, eqb, set, Float}
use Rattle.std.specs.Float.{nan}
use Rattle.commons.specs.Filled.{copied}
use Rattle.refusals.specs.declared.Refusal.TheVariants.{Added}
use Rattle.refusals.specs.declared.AddedError.TheVariants.{BadRecord}
use Rattle.refusals.specs.Number.{added_number}
use Rattle.seats.specs.Bits.{count_to}
use Rattle.rounds.specs.Steps.{amount_of}
use Rattle.table.specs.declared.GameState.{GameState}
use Rattle.table.specs.Pay.{actor, reward_of}
use Rattle.table.specs.Queries.{is_capped, is_complete, at_seat, round_bet_at}
use Rattle.table.specs.Sound.{sound_of}
use Rattle.layout.specs.Standing.{table_at, stands_in}
use Rattle.layout.specs.Words.{word_of, flag_of}

-- ---- a player's reward, told at place 0
abbrev pub reward_on : List Float → List ℕ → ℕ → ℕ → Result Float Refusal
reward_on fs ns i room = cond (leb 1 room && stands_in fs ns) (reward_of (table_at fs ns) i) (Err (Added BadRecord))

abbrev pub amount_after : Result Float Refusal → List Float → List Float
amount_after a out = cond (eqb (verdict_number a) 0) (set out 0 (amount_of a)) out

-- ---- the queries, in the order of include/peatcloak.h; i is the seat that is asked about
abbrev pub amounts_asked : GameState → ℕ → List Float
amounts_asked t i =
    at_seat t.num_players t.stacks (actor t)
    ∷ at_seat t.num_players t.starting_stacks (actor t)
    ∷ round_bet_at t (actor t)
    ∷ t.round_data.bet
    ∷ round_bet_at t i
    ∷ t.round_data.min_raise
    ∷ []

abbrev pub answers_asked : GameState → List ℕ
answers_asked t =
    flag_of (is_capped t)
    ∷ word_of (count_to 16 t.player_active.set)
    ∷ word_of (count_to 16 t.player_all_in.set)
    ∷ flag_of (is_complete t)
    ∷ word_of (actor t)
    ∷ word_of (count_to 16 t.round_data.needs_action.set)
    ∷ flag_of (sound_of t)
    ∷ []

-- room for 6 amounts and 7 answers, and a table
abbrev pub is_asked : List Float → List ℕ → ℕ → ℕ → Bool
is_asked fs ns amounts answers = (leb 6 amounts && leb 7 answers) && stands_in fs ns

abbrev pub asked_number : Bool → ℕ
asked_number asked = cond asked 0 (added_number BadRecord)

abbrev pub amounts_told : Bool → GameState → ℕ → List Float → List Float
amounts_told asked t i out = cond asked (copied nan 0 out 0 (amounts_asked t i) 6) out

abbrev pub answers_told : Bool → GameState → List ℕ → List ℕ
answers_told asked t out = cond asked (copied 0 0 out 0 (answers_asked t) 7) out
