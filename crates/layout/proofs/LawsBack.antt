-- A sound record that is laid into the lists is the table that then stands there, place by place. Assumes nothing.
use Prim.Native.Nat.{ℕ, ◌+◌, ◌<◌, ◌≤◌, ◌%◌}
use native.Mathlib.Nat.{mod-eq_of_lt}
use native.Mathlib.Omega.{arith}
use mathlib.Core.Path.{◌≡◌, refl, sym, ap, ◌∙◌}
use mathlib.Core.Bool.{Bool, true, false, cond}
use mathlib.Core.List.{List, [], ◌∷◌}
use lib.Dec.{eqb, leb}
use lib.ListN.{get_or, length}
use lib.Ieee.{Float, nan}
use borrow.Author.Tests.{leb-true, le-leb}
use Rattle.commons.specs.Filled.{filled, copied, shared}
use Rattle.commons.proofs.Bools.{and_both, differ}
use Rattle.commons.proofs.Filled.{filled_at, filled-out, laid-long, copied-front}
use Rattle.seats.specs.Set.{of_bits}
use Rattle.rounds.specs.declared.RoundData.{RoundData}
use Rattle.rounds.specs.With.{data_of}
use Rattle.table.specs.declared.GameState.{GameState}
use Rattle.table.specs.Sound.{cards_ok, board_ok, sound_of}
use Rattle.table.specs.With.{table_of}
use Rattle.table.proofs.Sound.{Sound, sound}
use Rattle.layout.specs.Added.{added_at, added_words, AddedFit}
use Rattle.layout.specs.Fits.{ListsFit, NumbersFit, Fits}
use Rattle.layout.specs.Laid.{numbers_of, laid_numbers, amounts_of, laid_list, laid_floats, floats_laid, numbers_laid, ReadsBack, data_floats, data_numbers, floats_data_laid, numbers_data_laid}
use Rattle.layout.specs.Places.{NUM_PLAYERS, DEALER_IDX, ROUND, ROUND_BEFORE, PLAYER_ACTIVE, PLAYER_ALL_IN, STARTING_PLAYER_ACTIVE, NEEDS_ACTION, TO_ACT_IDX, ROUND_LENGTH, TOTAL_BET_COUNT, TOTAL_RAISE_COUNT, FORCED_BET_COUNT, BB_POSTED, SB_POSTED, HAS_CAP, CAP, BOARD_LENGTH, BOARD, ADDED, NUMBERS, TOTAL_POT, BIG_BLIND, SMALL_BLIND, ANTE, ROUND_BET, MIN_RAISE, STACKS, STARTING_STACKS, HAND_BETS, WINNINGS, ROUND_BETS, FLOATS}
use Rattle.layout.specs.Standing.{board_at, data_at, table_at, room_for}
use Rattle.layout.specs.Words.{word_at, round_of, float_at, sixteen_at, word_of, flag_of}
use Rattle.layout.proofs.LawsAdded.{added_apart, added-back}
use Rattle.layout.proofs.Rounds.{round-back}
use Rattle.layout.proofs.Sixteen.{list-long, list-out, list_apart, list_back}

flag-back : (b : Bool) → eqb (flag_of b) 1 ≡ b
flag-back true = refl
flag-back false = refl

five_back : (b : List ℕ) → length b ≡ 5 → get_or b 0 0 ∷ get_or b 1 0 ∷ get_or b 2 0 ∷ get_or b 3 0 ∷ get_or b 4 0 ∷ [] ≡ b
five_back [] h = absurd (omega arith)
five_back (a ∷ []) h = absurd (omega arith)
five_back (a ∷ b ∷ []) h = absurd (omega arith)
five_back (a ∷ b ∷ c ∷ []) h = absurd (omega arith)
five_back (a ∷ b ∷ c ∷ d ∷ []) h = absurd (omega arith)
five_back (a ∷ b ∷ c ∷ d ∷ e ∷ []) h = refl
five_back (a ∷ b ∷ c ∷ d ∷ e ∷ f ∷ r) h = absurd (omega arith)

pub few : (n : ℕ) (b : List ℕ) → board_ok n b ≡ true → n ≤ 5
unfolding board_ok
few n b e = leb-true n 5 (and_both (leb n 5) (cards_ok n b) e).0

-- a number below 17 is a word, a set of seats and a byte keep their bits
small : {w n : ℕ} → n ≤ 16 → w ≡ word_of n → w ≡ n
small h e = e ∙ mod-eq_of_lt (omega arith)

bits : {w s : ℕ} → s < 65536 → w ≡ s → w % 65536 ≡ s
bits h e = ap (λ (w : ℕ). w % 65536) e ∙ mod-eq_of_lt h

byte : {w c : ℕ} → c < 256 → w ≡ c → w % 256 ≡ c
byte h e = ap (λ (w : ℕ). w % 256) e ∙ mod-eq_of_lt h

flag : {w : ℕ} (b : Bool) → w ≡ flag_of b → eqb w 1 ≡ b
flag b e = ap (λ (w : ℕ). eqb w 1) e ∙ flag-back b

-- ---- the numbers
module _ (t : GameState) (passed : ℕ) (ns : List ℕ) (longs : NUMBERS ≤ length ns) where
  pub words_long : length (copied 0 0 ns 0 (numbers_of t passed) ADDED) ≡ length ns
  words_long = laid-long 0 ns (λ k. get_or (numbers_of t passed) (0 + k) 0) (shared 0 ns 0 (numbers_of t passed) ADDED)

  pub numbers-long : length (laid_numbers t passed ns) ≡ length ns
  numbers-long =
      let words = copied 0 0 ns 0 (numbers_of t passed) ADDED in
      laid-long ADDED words (λ k. get_or (added_words t.added) (0 + k) 0) (shared ADDED words 0 (added_words t.added) 3) ∙ words_long

  pub word_back : (j : ℕ) → j < ADDED → word_at (laid_numbers t passed ns) j ≡ get_or (numbers_of t passed) j 0
  word_back j h =
      added_apart t.added (copied 0 0 ns 0 (numbers_of t passed) ADDED) j (λ l g. omega arith)
      ∙ (λ i. word_at (copied-front 0 ns (numbers_of t passed) ADDED ADDED (omega arith) i) j)
      ∙ filled_at ns (λ k. get_or (numbers_of t passed) k 0) ADDED j 0 h (omega arith)

  board-back : NumbersFit t → board_at (laid_numbers t passed ns) ≡ t.board
  board-back n =
      (λ z.
      byte n.card0 (word_back BOARD (omega arith)) z
      ∷ byte n.card1 (word_back (BOARD + 1) (omega arith)) z
      ∷ byte n.card2 (word_back (BOARD + 2) (omega arith)) z
      ∷ byte n.card3 (word_back (BOARD + 3) (omega arith)) z
      ∷ byte n.card4 (word_back (BOARD + 4) (omega arith)) z
      ∷ [])
      ∙ five_back t.board n.cards

  last-back : AddedFit t.added → added_at (laid_numbers t passed ns) ≡ t.added
  last-back f = added-back t.added (copied 0 0 ns 0 (numbers_of t passed) ADDED) (omega (arith, words_long)) f

-- ---- the floats: the single amounts, then list after list
module _ (t : GameState) (paid : Float) (fs : List Float) (long : FLOATS ≤ length fs) (f : ListsFit t) where
  abbrev base : List Float
  base = copied nan 0 fs 0 (amounts_of t paid) 7

  abbrev with-stacks : List Float
  with-stacks = laid_list STACKS t.stacks base

  abbrev with-starting : List Float
  with-starting = laid_list STARTING_STACKS t.starting_stacks with-stacks

  abbrev with-bets : List Float
  with-bets = laid_list HAND_BETS t.player_bet with-starting

  abbrev with-won : List Float
  with-won = laid_list WINNINGS t.player_winnings with-bets

  abbrev fs' : List Float
  fs' = laid_floats t paid fs

  base-long : length base ≡ length fs
  base-long = laid-long 0 fs (λ k. get_or (amounts_of t paid) (0 + k) nan) (shared 0 fs 0 (amounts_of t paid) 7)

  long0 : FLOATS ≤ length base
  long0 = omega (arith, base-long)

  long1 : FLOATS ≤ length with-stacks
  long1 = omega (arith, long0, list-long STACKS t.stacks base)

  long2 : FLOATS ≤ length with-starting
  long2 = omega (arith, long1, list-long STARTING_STACKS t.starting_stacks with-stacks)

  long3 : FLOATS ≤ length with-bets
  long3 = omega (arith, long2, list-long HAND_BETS t.player_bet with-starting)

  long4 : FLOATS ≤ length with-won
  long4 = omega (arith, long3, list-long WINNINGS t.player_winnings with-bets)

  pub floats_long : length fs' ≡ length fs
  floats_long =
      list-long ROUND_BETS t.round_data.player_bet with-won
      ∙ list-long WINNINGS t.player_winnings with-bets
      ∙ list-long HAND_BETS t.player_bet with-starting
      ∙ list-long STARTING_STACKS t.starting_stacks with-stacks
      ∙ list-long STACKS t.stacks base
      ∙ base-long

  -- what each list leaves of the others, and of the single amounts
  lists-out : (j : ℕ) → (STACKS ≤ j → j < FLOATS → ⊥) → float_at fs' j ≡ float_at base j
  lists-out j out =
      list-out ROUND_BETS t.round_data.player_bet with-won f.round-bets (omega (arith, long4)) j (λ k b e. out (omega arith) (omega arith))
      ∙ list-out WINNINGS t.player_winnings with-bets f.won (omega (arith, long3)) j (λ k b e. out (omega arith) (omega arith))
      ∙ list-out HAND_BETS t.player_bet with-starting f.bets (omega (arith, long2)) j (λ k b e. out (omega arith) (omega arith))
      ∙ list-out STARTING_STACKS t.starting_stacks with-stacks f.starting (omega (arith, long1)) j (λ k b e. out (omega arith) (omega arith))
      ∙ list-out STACKS t.stacks base f.stacks (omega (arith, long0)) j (λ k b e. out (omega arith) (omega arith))

  base-is : base ≡ filled 7 fs (λ k. get_or (amounts_of t paid) k nan)
  base-is = copied-front nan fs (amounts_of t paid) 7 7 (omega arith)

  pub amount-back : (j : ℕ) → j < 7 → float_at fs' j ≡ get_or (amounts_of t paid) j nan
  amount-back j h = lists-out j (λ l g. omega arith) ∙ (λ i. float_at (base-is i) j) ∙ filled_at fs (λ k. get_or (amounts_of t paid) k nan) 7 j nan h (omega arith)

  -- the places that are no table's
  pub float_kept : (j : ℕ) → 7 ≤ j → (STACKS ≤ j → j < FLOATS → ⊥) → float_at fs' j ≡ float_at fs j
  float_kept j h out = lists-out j out ∙ (λ i. float_at (base-is i) j) ∙ filled-out fs (λ k. get_or (amounts_of t paid) k nan) 7 j nan h

  pub stacks-back : sixteen_at fs' STACKS ≡ t.stacks
  stacks-back =
      list_apart ROUND_BETS t.round_data.player_bet with-won f.round-bets (omega (arith, long4)) STACKS (omega (arith, long4)) (λ j k b c e. omega arith)
      ∙ list_apart WINNINGS t.player_winnings with-bets f.won (omega (arith, long3)) STACKS (omega (arith, long3)) (λ j k b c e. omega arith)
      ∙ list_apart HAND_BETS t.player_bet with-starting f.bets (omega (arith, long2)) STACKS (omega (arith, long2)) (λ j k b c e. omega arith)
      ∙ list_apart STARTING_STACKS t.starting_stacks with-stacks f.starting (omega (arith, long1)) STACKS (omega (arith, long1)) (λ j k b c e. omega arith)
      ∙ list_back STACKS t.stacks base f.stacks (omega (arith, long0))

  pub starting-back : sixteen_at fs' STARTING_STACKS ≡ t.starting_stacks
  starting-back =
      list_apart ROUND_BETS t.round_data.player_bet with-won f.round-bets (omega (arith, long4)) STARTING_STACKS (omega (arith, long4)) (λ j k b c e. omega arith)
      ∙ list_apart WINNINGS t.player_winnings with-bets f.won (omega (arith, long3)) STARTING_STACKS (omega (arith, long3)) (λ j k b c e. omega arith)
      ∙ list_apart HAND_BETS t.player_bet with-starting f.bets (omega (arith, long2)) STARTING_STACKS (omega (arith, long2)) (λ j k b c e. omega arith)
      ∙ list_back STARTING_STACKS t.starting_stacks with-stacks f.starting (omega (arith, long1))

  pub bets-back : sixteen_at fs' HAND_BETS ≡ t.player_bet
  bets-back =
      list_apart ROUND_BETS t.round_data.player_bet with-won f.round-bets (omega (arith, long4)) HAND_BETS (omega (arith, long4)) (λ j k b c e. omega arith)
      ∙ list_apart WINNINGS t.player_winnings with-bets f.won (omega (arith, long3)) HAND_BETS (omega (arith, long3)) (λ j k b c e. omega arith)
      ∙ list_back HAND_BETS t.player_bet with-starting f.bets (omega (arith, long2))

  pub won-back : sixteen_at fs' WINNINGS ≡ t.player_winnings
  won-back =
      list_apart ROUND_BETS t.round_data.player_bet with-won f.round-bets (omega (arith, long4)) WINNINGS (omega (arith, long4)) (λ j k b c e. omega arith)
      ∙ list_back WINNINGS t.player_winnings with-bets f.won (omega (arith, long3))

  pub round-bets-back : sixteen_at fs' ROUND_BETS ≡ t.round_data.player_bet
  round-bets-back = list_back ROUND_BETS t.round_data.player_bet with-won f.round-bets (omega (arith, long4))

-- ---- the record
module _ (t : GameState) (paid : Float) (passed : ℕ) (fs : List Float) (ns : List ℕ) (long : FLOATS ≤ length fs) (longs : NUMBERS ≤ length ns) (f : Fits t) (s : Sound t) where
  data_back : data_at (laid_floats t paid fs) (laid_numbers t passed ns) ≡ t.round_data
  data_back =
      let n = f.numbers in
      let word = word_back t passed ns longs in
      let amount = amount-back t paid fs long f.lists in
      let len : t.round_data.player_bet_len ≤ 16 = rw s.same s.most in
      let act = s.place in
      λ z.
      data_of (of_bits (bits n.start (word STARTING_PLAYER_ACTIVE (omega arith)) z))
      (of_bits (bits n.owing (word NEEDS_ACTION (omega arith)) z))
      (amount MIN_RAISE (omega arith) z)
      (amount ROUND_BET (omega arith) z)
      (round-bets-back t paid fs long f.lists z)
      (small len (word ROUND_LENGTH (omega arith)) z)
      (byte n.total (word TOTAL_BET_COUNT (omega arith)) z)
      (byte n.raise (word TOTAL_RAISE_COUNT (omega arith)) z)
      (byte n.force (word FORCED_BET_COUNT (omega arith)) z)
      (small (omega (arith, act)) (word TO_ACT_IDX (omega arith)) z)

  table-back : table_at (laid_floats t paid fs) (laid_numbers t passed ns) ≡ t
  table-back =
      let n = f.numbers in
      let word = word_back t passed ns longs in
      let amount = amount-back t paid fs long f.lists in
      let most = s.most in
      let deals = s.deals in
      let cards = few t.board_len t.board s.cards in
      λ z.
      table_of (small most (word NUM_PLAYERS (omega arith)) z)
      (bits n.active (word PLAYER_ACTIVE (omega arith)) z)
      (bits n.all_in (word PLAYER_ALL_IN (omega arith)) z)
      (amount TOTAL_POT (omega arith) z)
      (stacks-back t paid fs long f.lists z)
      (starting-back t paid fs long f.lists z)
      (bets-back t paid fs long f.lists z)
      (won-back t paid fs long f.lists z)
      (amount BIG_BLIND (omega arith) z)
      (amount SMALL_BLIND (omega arith) z)
      (amount ANTE (omega arith) z)
      (small (omega (arith, most, deals)) (word DEALER_IDX (omega arith)) z)
      ((ap round_of (word ROUND (omega arith)) ∙ round-back t.round) z)
      ((ap round_of (word ROUND_BEFORE (omega arith)) ∙ round-back t.round_before) z)
      (data_back z)
      (board-back t passed ns longs n z)
      (small (omega (arith, cards)) (word BOARD_LENGTH (omega arith)) z)
      (flag t.bb_posted (word BB_POSTED (omega arith)) z)
      (flag t.sb_posted (word SB_POSTED (omega arith)) z)
      (flag t.has_max_raises (word HAS_CAP (omega arith)) z)
      (byte n.cap (word CAP (omega arith)) z)
      (last-back t passed ns longs f.added z)

pub reads-back : (t : GameState) (paid : Float) (passed : ℕ) (fs : List Float) (ns : List ℕ)
    → FLOATS ≤ length fs
    → NUMBERS ≤ length ns
    → Fits t
    → sound_of t ≡ true
    → table_at (laid_floats t paid fs) (laid_numbers t passed ns) ≡ t
reads-back t paid passed fs ns long longs f s = table-back t paid passed fs ns long longs f (sound t s)

-- ---- what is laid where there is room, and where there is none
module _ (t : GameState) (paid : Float) (passed : ℕ) (fs : List Float) (ns : List ℕ) where
  abbrev pub Laid : List Float → List ℕ → Type 0
  Laid fs' ns' = (fs' ≡ floats_laid (length ns) t paid fs) × ((ns' ≡ numbers_laid (length fs) t passed ns) × ReadsBack (length fs) (length ns) t fs' ns')

  pub laid-all : (fs' : List Float) (ns' : List ℕ)
      → FLOATS ≤ length fs
      → NUMBERS ≤ length ns
      → fs' ≡ laid_floats t paid fs
      → ns' ≡ laid_numbers t passed ns
      → Fits t
      → Laid fs' ns'
  laid-all fs' ns' long longs e g f =
      let room : room_for (length fs) (length ns) ≡ true = simp (le-leb _ _ long, le-leb _ _ longs) in (
        e ∙ (λ i. cond (sym room i) (laid_floats t paid fs) fs),
        (
          g ∙ (λ i. cond (sym room i) (laid_numbers t passed ns) ns),
          λ r s. (λ i. table_at (e i) (g i)) ∙ reads-back t paid passed fs ns long longs f s,
        ),
      )

  pub laid-nothing : room_for (length fs) (length ns) ≡ false → Laid fs ns
  laid-nothing short = (
    (λ i. cond (sym short i) (laid_floats t paid fs) fs),
    ((λ i. cond (sym short i) (laid_numbers t passed ns) ns), λ r s. absurd (differ (room_for (length fs) (length ns)) r short)),
  )

-- ---- the same of round data
module _ (d : RoundData) (passed : ℕ) (fs : List Float) (ns : List ℕ) where
  abbrev pub DataLaid : List Float → List ℕ → Type 0
  DataLaid fs' ns' = (fs' ≡ floats_data_laid (length ns) d fs) × (ns' ≡ numbers_data_laid (length fs) d passed ns)

  pub data_all : (fs' : List Float) (ns' : List ℕ) → FLOATS ≤ length fs → NUMBERS ≤ length ns → fs' ≡ data_floats d fs → ns' ≡ data_numbers d passed ns → DataLaid fs' ns'
  data_all fs' ns' long longs e g =
      let room : room_for (length fs) (length ns) ≡ true = simp (le-leb _ _ long, le-leb _ _ longs) in
      (e ∙ (λ i. cond (sym room i) (data_floats d fs) fs), g ∙ (λ i. cond (sym room i) (data_numbers d passed ns) ns))

  pub data_nothing : room_for (length fs) (length ns) ≡ false → DataLaid fs ns
  data_nothing short = ((λ i. cond (sym short i) (data_floats d fs) fs), (λ i. cond (sym short i) (data_numbers d passed ns) ns))
