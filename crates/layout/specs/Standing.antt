-- R15.3: the table that stands in a host's two lists, fs and ns. Definitions only.
use Rattle.std.specs.Prelude.{ℕ, ◌+◌, Bool, cond, Result, Ok, Err, ◌&&◌, List, [], ◌∷◌, leb, ltb, length, Float}
use Rattle.commons.specs.Tests.{all_of}
use Rattle.seats.specs.Set.{of_bits}
use Rattle.rounds.specs.declared.RoundData.{RoundData}
use Rattle.rounds.specs.Steps.{no_data}
use Rattle.rounds.specs.With.{data_of}
use Rattle.table.specs.declared.GameState.{GameState}
use Rattle.table.specs.declared.soundness.Frame.{Frame}
use Rattle.table.specs.Sound.{sound_frame}
use Rattle.table.specs.With.{table_of, no_table}
use Rattle.layout.specs.Added.{added_fits, added_at}
use Rattle.layout.specs.Places.{NUM_PLAYERS, DEALER_IDX, ROUND, ROUND_BEFORE, PLAYER_ACTIVE, PLAYER_ALL_IN, STARTING_PLAYER_ACTIVE, NEEDS_ACTION, TO_ACT_IDX, ROUND_LENGTH, TOTAL_BET_COUNT, TOTAL_RAISE_COUNT, FORCED_BET_COUNT, BB_POSTED, SB_POSTED, HAS_CAP, CAP, BOARD_LENGTH, BOARD, NUMBERS, TOTAL_POT, BIG_BLIND, SMALL_BLIND, ANTE, ROUND_BET, MIN_RAISE, STACKS, STARTING_STACKS, HAND_BETS, WINNINGS, ROUND_BETS, FLOATS}
use Rattle.layout.specs.Words.{word_at, set_at, byte_at, flag_at, round_at, float_at, sixteen_at}

-- ---- what stands there, read place by place
abbrev pub board_at : List ℕ → List ℕ
board_at ns = byte_at ns BOARD ∷ byte_at ns (BOARD + 1) ∷ byte_at ns (BOARD + 2) ∷ byte_at ns (BOARD + 3) ∷ byte_at ns (BOARD + 4) ∷ []

abbrev pub data_at : List Float → List ℕ → RoundData
data_at fs ns =
    data_of (of_bits (set_at ns STARTING_PLAYER_ACTIVE)) (of_bits (set_at ns NEEDS_ACTION)) (float_at fs MIN_RAISE) (float_at fs ROUND_BET) (sixteen_at fs ROUND_BETS)
    (word_at ns ROUND_LENGTH) (byte_at ns TOTAL_BET_COUNT) (byte_at ns TOTAL_RAISE_COUNT) (byte_at ns FORCED_BET_COUNT) (word_at ns TO_ACT_IDX)

abbrev pub table_at : List Float → List ℕ → GameState
table_at fs ns =
    table_of (word_at ns NUM_PLAYERS) (set_at ns PLAYER_ACTIVE) (set_at ns PLAYER_ALL_IN) (float_at fs TOTAL_POT)
    (sixteen_at fs STACKS) (sixteen_at fs STARTING_STACKS) (sixteen_at fs HAND_BETS) (sixteen_at fs WINNINGS)
    (float_at fs BIG_BLIND) (float_at fs SMALL_BLIND) (float_at fs ANTE) (word_at ns DEALER_IDX) (round_at ns ROUND) (round_at ns ROUND_BEFORE) (data_at fs ns)
    (board_at ns) (word_at ns BOARD_LENGTH) (flag_at ns BB_POSTED) (flag_at ns SB_POSTED) (flag_at ns HAS_CAP) (byte_at ns CAP) (added_at ns)

-- what soundness looks at: words alone
abbrev pub frame_at : List ℕ → Frame
frame_at ns = record {
  seats = word_at ns NUM_PLAYERS;
  round_seats = word_at ns ROUND_LENGTH;
  dealer = word_at ns DEALER_IDX;
  to_act = word_at ns TO_ACT_IDX;
  active = set_at ns PLAYER_ACTIVE;
  all_in = set_at ns PLAYER_ALL_IN;
  owing = set_at ns NEEDS_ACTION;
  starting = set_at ns STARTING_PLAYER_ACTIVE;
  cards = word_at ns BOARD_LENGTH;
  board = board_at ns;
  added = added_at ns;
}

-- ---- whether it stands there
-- the lists are long enough
abbrev pub room_for : ℕ → ℕ → Bool
room_for floats numbers = leb FLOATS floats && leb NUMBERS numbers

-- each word is in the range of what it stands for: the round's, the board's, and all
abbrev pub data_tests : List ℕ → List Bool
data_tests ns =
    ltb (word_at ns STARTING_PLAYER_ACTIVE) 65536
    ∷ ltb (word_at ns NEEDS_ACTION) 65536
    ∷ ltb (word_at ns TOTAL_BET_COUNT) 256
    ∷ ltb (word_at ns TOTAL_RAISE_COUNT) 256
    ∷ ltb (word_at ns FORCED_BET_COUNT) 256
    ∷ []

unfoldable pub data_fits : List ℕ → Bool
data_fits ns = all_of (data_tests ns)

abbrev pub board_tests : List ℕ → List Bool
board_tests ns =
    ltb (word_at ns BOARD) 256
    ∷ ltb (word_at ns (BOARD + 1)) 256
    ∷ ltb (word_at ns (BOARD + 2)) 256
    ∷ ltb (word_at ns (BOARD + 3)) 256
    ∷ ltb (word_at ns (BOARD + 4)) 256
    ∷ []

unfoldable pub board_fits : List ℕ → Bool
board_fits ns = all_of (board_tests ns)

abbrev pub word_tests : List ℕ → List Bool
word_tests ns =
    ltb (word_at ns ROUND) 12
    ∷ ltb (word_at ns ROUND_BEFORE) 12
    ∷ ltb (word_at ns PLAYER_ACTIVE) 65536
    ∷ ltb (word_at ns PLAYER_ALL_IN) 65536
    ∷ ltb (word_at ns BB_POSTED) 2
    ∷ ltb (word_at ns SB_POSTED) 2
    ∷ ltb (word_at ns HAS_CAP) 2
    ∷ ltb (word_at ns CAP) 256
    ∷ data_fits ns
    ∷ board_fits ns
    ∷ added_fits ns
    ∷ []

unfoldable pub words_fit : List ℕ → Bool
words_fit ns = all_of (word_tests ns)

abbrev pub stands_in : List Float → List ℕ → Bool
stands_in fs ns = room_for (length fs) (length ns) && words_fit ns

abbrev pub data_stands_in : List Float → List ℕ → Bool
data_stands_in fs ns = room_for (length fs) (length ns) && data_fits ns

-- ---- R15.3: the table, read; zeros where there is no room
unfoldable pub table_in : List Float → List ℕ → GameState
table_in fs ns = cond (room_for (length fs) (length ns)) (table_at fs ns) no_table

-- R15.15: the round data, where it stands there; else what its words are cut to, zeros where there is no room
unfoldable pub data_read_of : List Float → List ℕ → Result RoundData RoundData
data_read_of fs ns = cond (room_for (length fs) (length ns)) (cond (data_fits ns) (Ok (data_at fs ns)) (Err (data_at fs ns))) (Err no_data)

-- R15.3: whether it is sound
unfoldable pub sound_in : List ℕ → Bool
sound_in ns = leb NUMBERS (length ns) && sound_frame (frame_at ns)
