-- Which words are read and written. Two lists that agree below ADDED tell one table, but for the key; and from FREE on no word is read and none is written.
-- Assumes nothing.
use Prim.Native.Nat.{ℕ, ◌+◌, ◌<◌, ◌≤◌, ◌%◌}
use native.Mathlib.Omega.{arith}
use mathlib.Core.Path.{◌≡◌, ◌∙◌}
use mathlib.Core.Bool.{◌&&◌}
use mathlib.Core.List.{List, [], ◌∷◌}
use lib.Dec.{eqb, ltb}
use lib.ListN.{get_or}
use lib.Ieee.{Float}
use Rattle.commons.specs.Filled.{copied, shared}
use Rattle.commons.specs.Tests.{all_of}
use Rattle.commons.proofs.Filled.{laid_out}
use Rattle.seats.specs.Set.{of_bits}
use Rattle.rounds.specs.declared.RoundData.{RoundData}
use Rattle.rounds.specs.With.{data_of}
use Rattle.table.specs.declared.GameState.{GameState}
use Rattle.table.specs.With.{table_of}
use Rattle.table.proofs.LawsKey.{rekeyed}
use Rattle.layout.specs.Added.{added_at, added_fits}
use Rattle.layout.specs.Laid.{numbers_of, laid_numbers, data_words, data_numbers}
use Rattle.layout.specs.Places.{NUM_PLAYERS, DEALER_IDX, ROUND, ROUND_BEFORE, PLAYER_ACTIVE, PLAYER_ALL_IN, STARTING_PLAYER_ACTIVE, NEEDS_ACTION, TO_ACT_IDX, ROUND_LENGTH, TOTAL_BET_COUNT, TOTAL_RAISE_COUNT, FORCED_BET_COUNT, BB_POSTED, SB_POSTED, HAS_CAP, CAP, BOARD_LENGTH, BOARD, PASSED, ADDED, KEY_CODE, KEY_YEAR, FREE, MIN_RAISE, ROUND_BET, ROUND_BETS, TOTAL_POT, STACKS, STARTING_STACKS, HAND_BETS, WINNINGS, BIG_BLIND, SMALL_BLIND, ANTE}
use Rattle.layout.specs.Standing.{table_at, data_at, data_fits, board_fits, words_fit}
use Rattle.layout.specs.Words.{word_at, word_of, round_of, float_at, sixteen_at}
use Rattle.layout.proofs.LawsAdded.{added_apart, added-same}

-- ---- the words of the Rust's record
module _ (ns ms : List ℕ) (e : (j : ℕ) → j < ADDED → word_at ms j ≡ word_at ns j) where
  -- the table there is the other's, with its own key
  pub table_but_key : (fs : List Float) → table_at fs ms ≡ rekeyed (added_at ms).key (table_at fs ns)
  unfolding added_at
  table_but_key fs =
      λ z.
      table_of (e NUM_PLAYERS (omega arith) z) (e PLAYER_ACTIVE (omega arith) z % 65536) (e PLAYER_ALL_IN (omega arith) z % 65536) (float_at fs TOTAL_POT)
      (sixteen_at fs STACKS) (sixteen_at fs STARTING_STACKS) (sixteen_at fs HAND_BETS) (sixteen_at fs WINNINGS)
      (float_at fs BIG_BLIND) (float_at fs SMALL_BLIND) (float_at fs ANTE) (e DEALER_IDX (omega arith) z) (round_of (e ROUND (omega arith) z)) (round_of (e ROUND_BEFORE (omega arith) z))
      (data_of (of_bits (e STARTING_PLAYER_ACTIVE (omega arith) z % 65536)) (of_bits (e NEEDS_ACTION (omega arith) z % 65536)) (float_at fs MIN_RAISE) (float_at fs ROUND_BET) (sixteen_at fs ROUND_BETS)
      (e ROUND_LENGTH (omega arith) z) (e TOTAL_BET_COUNT (omega arith) z % 256) (e TOTAL_RAISE_COUNT (omega arith) z % 256) (e FORCED_BET_COUNT (omega arith) z % 256) (e TO_ACT_IDX (omega arith) z))
      (e BOARD (omega arith) z % 256 ∷ e (BOARD + 1) (omega arith) z % 256 ∷ e (BOARD + 2) (omega arith) z % 256 ∷ e (BOARD + 3) (omega arith) z % 256 ∷ e (BOARD + 4) (omega arith) z % 256 ∷ [])
      (e BOARD_LENGTH (omega arith) z) (eqb (e BB_POSTED (omega arith) z) 1) (eqb (e SB_POSTED (omega arith) z) 1) (eqb (e HAS_CAP (omega arith) z) 1) (e CAP (omega arith) z % 256) (added_at ms)

  -- and its words are in their ranges as the other's are, the round's, and all if those of the key are
  data_fits_lem : data_fits ms ≡ data_fits ns
  unfolding data_fits
  data_fits_lem =
      λ z.
      all_of
      (ltb (e STARTING_PLAYER_ACTIVE (omega arith) z) 65536
      ∷ ltb (e NEEDS_ACTION (omega arith) z) 65536
      ∷ ltb (e TOTAL_BET_COUNT (omega arith) z) 256
      ∷ ltb (e TOTAL_RAISE_COUNT (omega arith) z) 256
      ∷ ltb (e FORCED_BET_COUNT (omega arith) z) 256
      ∷ [])

  pub fits_but_key : added_fits ms ≡ added_fits ns → words_fit ms ≡ words_fit ns
  unfolding words_fit board_fits
  fits_but_key a =
      λ z.
      all_of
      (ltb (e ROUND (omega arith) z) 12
      ∷ ltb (e ROUND_BEFORE (omega arith) z) 12
      ∷ ltb (e PLAYER_ACTIVE (omega arith) z) 65536
      ∷ ltb (e PLAYER_ALL_IN (omega arith) z) 65536
      ∷ ltb (e BB_POSTED (omega arith) z) 2
      ∷ ltb (e SB_POSTED (omega arith) z) 2
      ∷ ltb (e HAS_CAP (omega arith) z) 2
      ∷ ltb (e CAP (omega arith) z) 256
      ∷ data_fits_lem z
      ∷ all_of
      (ltb (e BOARD (omega arith) z) 256
      ∷ ltb (e (BOARD + 1) (omega arith) z) 256
      ∷ ltb (e (BOARD + 2) (omega arith) z) 256
      ∷ ltb (e (BOARD + 3) (omega arith) z) 256
      ∷ ltb (e (BOARD + 4) (omega arith) z) 256
      ∷ [])
      ∷ a z
      ∷ [])

-- ---- from FREE on no word is read
module _ (ns ms : List ℕ) (e : (j : ℕ) → j < FREE → word_at ms j ≡ word_at ns j) where
  below : (j : ℕ) → j < ADDED → word_at ms j ≡ word_at ns j
  below j h = e j (omega arith)

  pub free_unread : (fs : List Float) → table_at fs ms ≡ table_at fs ns
  free_unread fs = table_but_key ns ms below fs ∙ λ z. rekeyed (added-same ms ns (λ j l h. e j h) z).key (table_at fs ns)

  pub free_untested : words_fit ms ≡ words_fit ns
  free_untested = fits_but_key ns ms below (λ z. ltb (e KEY_CODE (omega arith) z) 65536 && ltb (e KEY_YEAR (omega arith) z) 65536)

  pub data_unread : (fs : List Float) → data_at fs ms ≡ data_at fs ns
  data_unread fs = λ z. (free_unread fs z).round_data

  pub data_untested : data_fits ms ≡ data_fits ns
  data_untested = data_fits_lem ns ms below

-- ---- nor written
pub free_kept : (t : GameState) (passed : ℕ) (ns : List ℕ) (j : ℕ) → FREE ≤ j → word_at (laid_numbers t passed ns) j ≡ word_at ns j
free_kept t passed ns j h =
    added_apart t.added (copied 0 0 ns 0 (numbers_of t passed) ADDED) j (λ l g. omega arith)
    ∙ laid_out 0 ns (λ k. get_or (numbers_of t passed) (0 + k) 0) (shared 0 ns 0 (numbers_of t passed) ADDED) j 0 (λ i b f. omega arith)

-- of round data nothing but the round's own words is
pub data_free : (d : RoundData) (passed : ℕ) (ns : List ℕ) (j : ℕ) → ADDED ≤ j → word_at (data_numbers d passed ns) j ≡ word_at ns j
data_free d passed ns j h =
    let words = copied 0 STARTING_PLAYER_ACTIVE ns 0 (data_words d) 7 in
    laid_out PASSED words (λ k. get_or (word_of passed ∷ []) (0 + k) 0) (shared PASSED words 0 (word_of passed ∷ []) 1) j 0 (λ i b f. omega arith)
    ∙ laid_out STARTING_PLAYER_ACTIVE ns (λ k. get_or (data_words d) (0 + k) 0) (shared STARTING_PLAYER_ACTIVE ns 0 (data_words d) 7) j 0 (λ i b f. omega arith)
