-- R15.6: a table laid into a host's two lists, fs and ns: what stands at places that are no table's stays. Definitions only.
use Rattle.std.specs.Prelude.{ℕ, ◌≡◌, true, cond, List, [], ◌∷◌, get_or, length, Float}
use Rattle.std.specs.Float.{nan}
use Rattle.commons.specs.Filled.{copied}
use Rattle.rounds.specs.declared.RoundData.{RoundData}
use Rattle.rounds.specs.Order.{round_number}
use Rattle.table.specs.declared.GameState.{GameState}
use Rattle.table.specs.Sound.{sound_of}
use Rattle.layout.specs.Added.{laid_added}
use Rattle.layout.specs.Places.{STARTING_PLAYER_ACTIVE, PASSED, ADDED, ROUND_BET, STACKS, STARTING_STACKS, HAND_BETS, WINNINGS, ROUND_BETS}
use Rattle.layout.specs.Words.{word_of, flag_of}
use Rattle.layout.specs.Standing.{room_for, table_at}

-- ---- the words of a record in the order of their places; the last is how many seats the step's walk passed to
abbrev pub numbers_of : GameState → ℕ → List ℕ
numbers_of t passed =
    let d = t.round_data in
    word_of t.num_players
    ∷ word_of t.dealer_idx
    ∷ round_number t.round
    ∷ round_number t.round_before
    ∷ t.player_active.set
    ∷ t.player_all_in.set
    ∷ d.starting_player_active.set
    ∷ d.needs_action.set
    ∷ word_of d.to_act_idx
    ∷ word_of d.player_bet_len
    ∷ d.total_bet_count
    ∷ d.total_raise_count
    ∷ d.forced_bet_count
    ∷ flag_of t.bb_posted
    ∷ flag_of t.sb_posted
    ∷ flag_of t.has_max_raises
    ∷ t.max_raises_per_round
    ∷ word_of t.board_len
    ∷ get_or t.board 0 0
    ∷ get_or t.board 1 0
    ∷ get_or t.board 2 0
    ∷ get_or t.board 3 0
    ∷ get_or t.board 4 0
    ∷ word_of passed
    ∷ []

abbrev pub laid_numbers : GameState → ℕ → List ℕ → List ℕ
laid_numbers t passed ns = laid_added t.added (copied 0 0 ns 0 (numbers_of t passed) ADDED)

-- ---- the single amounts likewise, the last is what the step paid; then a list of sixteen from its place on, one after another
abbrev pub amounts_of : GameState → Float → List Float
amounts_of t paid =
    let d = t.round_data in
    t.total_pot ∷ t.big_blind ∷ t.small_blind ∷ t.ante ∷ d.bet ∷ d.min_raise ∷ paid ∷ []

abbrev pub laid_list : ℕ → List Float → List Float → List Float
laid_list at l fs = copied nan at fs 0 l 16

abbrev pub laid_floats : GameState → Float → List Float → List Float
laid_floats t paid fs =
    laid_list ROUND_BETS t.round_data.player_bet
    (laid_list WINNINGS t.player_winnings
    (laid_list HAND_BETS t.player_bet
    (laid_list STARTING_STACKS t.starting_stacks
    (laid_list STACKS t.stacks
    (copied nan 0 fs 0 (amounts_of t paid) 7)))))

-- ---- where there is room in both
abbrev pub floats_laid : ℕ → GameState → Float → List Float → List Float
floats_laid numbers t paid fs = cond (room_for (length fs) numbers) (laid_floats t paid fs) fs

abbrev pub numbers_laid : ℕ → GameState → ℕ → List ℕ → List ℕ
numbers_laid floats t passed ns = cond (room_for floats (length ns)) (laid_numbers t passed ns) ns

-- ---- R15.7: a sound record that is laid into lists with room for it is the one that then stands there
abbrev pub ReadsBack : ℕ → ℕ → GameState → List Float → List ℕ → Type 0
ReadsBack floats numbers t fs' ns' = room_for floats numbers ≡ true → sound_of t ≡ true → table_at fs' ns' ≡ t

-- ---- R15.15: round data, at its own places alone: the bet and the smallest raise, the round bets; the words in the order of their places, and the seats passed
abbrev pub data_floats : RoundData → List Float → List Float
data_floats d fs = laid_list ROUND_BETS d.player_bet (copied nan ROUND_BET fs 0 (d.bet ∷ d.min_raise ∷ []) 2)

abbrev pub data_words : RoundData → List ℕ
data_words d =
    d.starting_player_active.set
    ∷ d.needs_action.set
    ∷ word_of d.to_act_idx
    ∷ word_of d.player_bet_len
    ∷ d.total_bet_count
    ∷ d.total_raise_count
    ∷ d.forced_bet_count
    ∷ []

abbrev pub data_numbers : RoundData → ℕ → List ℕ → List ℕ
data_numbers d passed ns = copied 0 PASSED (copied 0 STARTING_PLAYER_ACTIVE ns 0 (data_words d) 7) 0 (word_of passed ∷ []) 1

abbrev pub floats_data_laid : ℕ → RoundData → List Float → List Float
floats_data_laid numbers d fs = cond (room_for (length fs) numbers) (data_floats d fs) fs

abbrev pub numbers_data_laid : ℕ → RoundData → ℕ → List ℕ → List ℕ
numbers_data_laid floats d passed ns = cond (room_for floats (length ns)) (data_numbers d passed ns) ns
