-- Stores in place: lists that have at each place what would be laid there are the laid lists, and a table that stands there is laid again as it was.
-- Assumes nothing.
use Prim.Native.Nat.{ℕ, ◌+◌, ◌-◌, ◌<◌, ◌≤◌}
use native.Mathlib.Nat.{mod-eq_of_lt, mod-lt}
use native.Mathlib.Omega.{arith}
use mathlib.Core.Path.{◌≡◌, refl, sym, ◌∙◌}
use mathlib.Core.Logic.{⊎_elim}
use mathlib.Core.Bool.{true}
use mathlib.Core.List.{List}
use lib.Dec.{eqb, ltb}
use lib.ListN.{get_or, set, length, length-set}
use lib.Seq.{ext_get_or, get_or-set_same, get_or-set_other}
use lib.Ieee.{Float, nan}
use borrow.Author.Count.{below_none, below_more}
use borrow.Author.Tests.{ltb-true}
use Rattle.commons.specs.Filled.{copied}
use Rattle.commons.proofs.Order.{lt_or_le}
use Rattle.commons.proofs.Tests.{test_at}
use Rattle.table.specs.declared.GameState.{GameState}
use Rattle.table.proofs.Sound.{Sound}
use Rattle.layout.specs.Added.{added_at, added_fits, laid_added}
use Rattle.layout.specs.Fits.{ListsFit, Fits}
use Rattle.layout.specs.Laid.{numbers_of, laid_numbers, amounts_of, laid_floats}
use Rattle.layout.specs.Places.{NUM_PLAYERS, DEALER_IDX, PLAYER_ACTIVE, PLAYER_ALL_IN, STARTING_PLAYER_ACTIVE, NEEDS_ACTION, TO_ACT_IDX, ROUND_LENGTH, TOTAL_BET_COUNT, TOTAL_RAISE_COUNT, FORCED_BET_COUNT, BB_POSTED, SB_POSTED, HAS_CAP, CAP, BOARD_LENGTH, BOARD, PASSED, ADDED, KEY_CODE, KEY_YEAR, FREE, NUMBERS, PAID, STACKS, STARTING_STACKS, HAND_BETS, WINNINGS, ROUND_BETS, FLOATS}
use Rattle.layout.specs.Standing.{data_tests, data_fits, board_tests, board_fits, word_tests, words_fit, table_at}
use Rattle.layout.specs.Words.{word_at, set_at, byte_at, flag_at, float_at, sixteen_at, word_of, flag_of}
use Rattle.layout.proofs.LawsAdded.{added-again}
use Rattle.layout.proofs.LawsBack.{few, words_long, numbers-long, word_back, floats_long, amount-back, float_kept, stacks-back, starting-back, bets-back, won-back, round-bets-back}
use Rattle.layout.proofs.LawsFree.{free_kept}
use Rattle.layout.proofs.Rounds.{number-again}
use Rattle.layout.proofs.Sixteen.{sixteen_long, sixteen_read, sixteen_same, same_or}

by : {P : Type 0} (n j : ℕ) → (j < n → P) → (n ≤ j → P) → P
by n j low high = ⊎_elim low high (lt_or_le j n)

-- ---- a list with the first n places of another over its own, and store by store
pub record Over {A : Type 0} (d : A) (n : ℕ) (w l l' : List A) : Type 0 where
  pub wide : n ≤ length w
  pub room : n ≤ length l
  pub long : length l' ≡ length l
  pub there : (j : ℕ) → j < n → get_or l' j d ≡ get_or w j d
  pub past : (j : ℕ) → n ≤ j → get_or l' j d ≡ get_or l j d

module _ {A : Type 0} (d : A) (n : ℕ) (w l l' : List A) where
  pub over_store : (i : ℕ) (a : A) → i < n → Over d n w l l' → Over d n (set w i a) l (set l' i a)
  over_store i a h o =
      let wide = o.wide in
      let room = o.room in
      let long = o.long in
      record {
        wide = omega (arith, wide, length-set w i a);
        room = room;
        long = length-set l' i a ∙ long;
        there = λ j b. ⊎_elim
            (λ e.
            (λ z. get_or (set l' i a) (e z) d)
            ∙ get_or-set_same l' i a d (omega (arith, h, room, long))
            ∙ sym (get_or-set_same w i a d (omega (arith, h, wide)))
            ∙ λ z. get_or (set w i a) (sym e z) d)
            (λ f. get_or-set_other l' i j a d f ∙ o.there j b ∙ sym (get_or-set_other w i j a d f))
            (same_or j i);
        past = λ j b. get_or-set_other l' i j a d (λ e. omega arith) ∙ o.past j b;
      }

pub number_store : (ns w ms : List ℕ) (i a : ℕ) → i < ADDED → Over 0 ADDED w ns ms → Over 0 ADDED (set w i a) ns (set ms i a)
number_store ns w ms = over_store 0 ADDED w ns ms

-- ---- the numbers: those of a table with what is added as it stands there
module _ (t : GameState) (passed : ℕ) (ns ns' : List ℕ) where
  pub numbers_are : NUMBERS ≤ length ns → Over 0 ADDED (numbers_of t passed) ns ns' → added_fits ns ≡ true → t.added ≡ added_at ns → ns' ≡ laid_numbers t passed ns
  numbers_are longs o fit same =
      let words = copied 0 0 ns 0 (numbers_of t passed) ADDED in
      ext_get_or 0 ns' (laid_numbers t passed ns) (o.long ∙ sym (numbers-long t passed ns longs))
      (λ j b. by ADDED j (λ h. o.there j h ∙ sym (word_back t passed ns longs j h))
      (λ h. o.past j h ∙ by FREE j
      (λ g. sym ((λ z. word_at (laid_added (same z) words) j) ∙ added-again ns words (omega (arith, longs, words_long t passed ns longs)) fit j h g))
      (λ g. sym (free_kept t passed ns j g))))

pub added-fits : (ns : List ℕ) → words_fit ns ≡ true → added_fits ns ≡ true
unfolding words_fit
added-fits ns fit = test_at (word_tests ns) fit 10

-- ---- the floats: the single amounts, the five lists, and the rest as it was
pub record FloatsAre (t : GameState) (paid : Float) (fs fs' : List Float) : Type 0 where
  pub long : length fs' ≡ length fs
  pub amounts : (j : ℕ) → j < 7 → float_at fs' j ≡ get_or (amounts_of t paid) j nan
  pub stacks : sixteen_at fs' STACKS ≡ t.stacks
  pub starting : sixteen_at fs' STARTING_STACKS ≡ t.starting_stacks
  pub bets : sixteen_at fs' HAND_BETS ≡ t.player_bet
  pub won : sixteen_at fs' WINNINGS ≡ t.player_winnings
  pub round-bets : sixteen_at fs' ROUND_BETS ≡ t.round_data.player_bet
  pub rest : (j : ℕ) → 7 ≤ j → (STACKS ≤ j → j < FLOATS → ⊥) → float_at fs' j ≡ float_at fs j

-- two lists that have the same sixteen from a place on have the same at each of them
alike : (fs gs : List Float) (o j : ℕ) → o + 16 ≤ length fs → o + 16 ≤ length gs → sixteen_at fs o ≡ sixteen_at gs o → o ≤ j → j < o + 16 → float_at fs j ≡ float_at gs j
alike fs gs o j a b e h g =
    let place : o + (j - o) ≡ j = omega arith in
    (λ z. float_at fs (sym place z))
    ∙ sym (sixteen_read fs o a (j - o) (omega arith))
    ∙ (λ z. get_or (e z) (j - o) nan)
    ∙ sixteen_read gs o b (j - o) (omega arith)
    ∙ λ z. float_at gs (place z)

module _ (t : GameState) (paid : Float) (fs fs' : List Float) (room : FLOATS ≤ length fs) (a : FloatsAre t paid fs fs') where
  lists : ListsFit t
  lists = record {
    stacks = (λ z. length (sym a.stacks z)) ∙ sixteen_long fs' STACKS;
    starting = (λ z. length (sym a.starting z)) ∙ sixteen_long fs' STARTING_STACKS;
    bets = (λ z. length (sym a.bets z)) ∙ sixteen_long fs' HAND_BETS;
    won = (λ z. length (sym a.won z)) ∙ sixteen_long fs' WINNINGS;
    round-bets = (λ z. length (sym a.round-bets z)) ∙ sixteen_long fs' ROUND_BETS;
  }

  abbrev laid : List Float
  laid = laid_floats t paid fs

  laid-long : length laid ≡ length fs
  laid-long = floats_long t paid fs room lists

  same : (o j : ℕ) → o + 16 ≤ FLOATS → sixteen_at fs' o ≡ sixteen_at laid o → o ≤ j → j < o + 16 → float_at fs' j ≡ float_at laid j
  same o j h = let long = a.long in alike fs' laid o j (omega (arith, h, room, long)) (omega (arith, h, room, laid-long))

  kept : (j : ℕ) → 7 ≤ j → (STACKS ≤ j → j < FLOATS → ⊥) → float_at fs' j ≡ float_at laid j
  kept j h out = a.rest j h out ∙ sym (float_kept t paid fs room lists j h out)

  pub floats_are : fs' ≡ laid_floats t paid fs
  floats_are =
      ext_get_or nan fs' laid (a.long ∙ sym laid-long)
      (λ j b. by 7 j (λ h. a.amounts j h ∙ sym (amount-back t paid fs room lists j h))
      (λ low. by STACKS j (λ h. kept j low (λ l g. omega (arith, h, l)))
      (λ k0. by STARTING_STACKS j (λ h. same STACKS j (omega arith) (a.stacks ∙ sym (stacks-back t paid fs room lists)) k0 h)
      (λ k1. by HAND_BETS j (λ h. same STARTING_STACKS j (omega arith) (a.starting ∙ sym (starting-back t paid fs room lists)) k1 h)
      (λ k2. by WINNINGS j (λ h. same HAND_BETS j (omega arith) (a.bets ∙ sym (bets-back t paid fs room lists)) k2 h)
      (λ k3. by ROUND_BETS j (λ h. same WINNINGS j (omega arith) (a.won ∙ sym (won-back t paid fs room lists)) k3 h)
      (λ k4. by FLOATS j (λ h. same ROUND_BETS j (omega arith) (a.round-bets ∙ sym (round-bets-back t paid fs room lists)) k4 h)
      (λ k5. kept j low (λ l g. omega (arith, k5, g))))))))))

-- ---- a table that stands there, laid again: each word is as it was, but how many seats were passed
flag-again : (w : ℕ) → w < 2 → flag_of (eqb w 1) ≡ w
flag-again = let Again : ℕ → Type 0 = λ w. flag_of (eqb w 1) ≡ w in below_more Again 1 (below_more Again 0 (below_none Again) refl) refl

module _ (fs : List Float) (ns : List ℕ) (fit : words_fit ns ≡ true) (s : Sound (table_at fs ns)) (passed : ℕ) where
  abbrev Again : ℕ → Type 0
  Again j = get_or (numbers_of (table_at fs ns) passed) j 0 ≡ word_at ns j

  word : (j : ℕ) → word_at ns j ≤ 16 → word_of (word_at ns j) ≡ word_at ns j
  word j h = mod-eq_of_lt (omega arith)

  bits : (j : ℕ) → ltb (word_at ns j) 65536 ≡ true → set_at ns j ≡ word_at ns j
  bits j e = mod-eq_of_lt (ltb-true _ _ e)

  byte : (j : ℕ) → ltb (word_at ns j) 256 ≡ true → byte_at ns j ≡ word_at ns j
  byte j e = mod-eq_of_lt (ltb-true _ _ e)

  flag : (j : ℕ) → ltb (word_at ns j) 2 ≡ true → flag_of (flag_at ns j) ≡ word_at ns j
  flag j e = flag-again (word_at ns j) (ltb-true _ _ e)

  word-again : (j : ℕ) → j < PASSED → Again j
  unfolding words_fit data_fits board_fits
  word-again =
      let at = test_at (word_tests ns) fit in
      let data-at = test_at (data_tests ns) (at 8) in
      let board-at = test_at (board_tests ns) (at 9) in
      let most = s.most in
      let same = s.same in
      let deals = s.deals in
      let act = s.place in
      let cards = few (word_at ns BOARD_LENGTH) _ s.cards in
      let more = below_more Again in
      let first = more 3 (more 2 (more 1 (more 0 (below_none Again) (word NUM_PLAYERS most)) (word DEALER_IDX (omega (arith, most, deals)))) (number-again _ (ltb-true _ _ (at 0)))) (number-again _ (ltb-true _ _ (at 1))) in
      let sets = more 7 (more 6 (more 5 (more 4 first (bits PLAYER_ACTIVE (at 2))) (bits PLAYER_ALL_IN (at 3))) (bits STARTING_PLAYER_ACTIVE (data-at 0))) (bits NEEDS_ACTION (data-at 1)) in
      let turn = more 9 (more 8 sets (word TO_ACT_IDX (omega (arith, act)))) (word ROUND_LENGTH (omega (arith, same, most))) in
      let counts = more 12 (more 11 (more 10 turn (byte TOTAL_BET_COUNT (data-at 2))) (byte TOTAL_RAISE_COUNT (data-at 3))) (byte FORCED_BET_COUNT (data-at 4)) in
      let flags = more 15 (more 14 (more 13 counts (flag BB_POSTED (at 4))) (flag SB_POSTED (at 5))) (flag HAS_CAP (at 6)) in
      let board = more 17 (more 16 flags (byte CAP (at 7))) (word BOARD_LENGTH (omega (arith, cards))) in
      more 22 (more 21 (more 20 (more 19 (more 18 board (byte BOARD (board-at 0))) (byte (BOARD + 1) (board-at 1))) (byte (BOARD + 2) (board-at 2))) (byte (BOARD + 3) (board-at 3))) (byte (BOARD + 4) (board-at 4))

  -- so nothing is stored yet of what is to be laid
  pub numbers_stand : NUMBERS ≤ length ns → Over 0 ADDED (set (numbers_of (table_at fs ns) passed) PASSED (word_at ns PASSED)) ns ns
  numbers_stand longs = record {
    wide = omega arith;
    room = omega arith;
    long = refl;
    there = below_more (λ (j : ℕ). word_at ns j ≡ get_or (set (numbers_of (table_at fs ns) passed) PASSED (word_at ns PASSED)) j 0) PASSED
        (λ j h. sym (word-again j h) ∙ sym (get_or-set_other (numbers_of (table_at fs ns) passed) PASSED j (word_at ns PASSED) 0 (λ e. omega arith))) refl;
    past = λ j h. refl;
  }

-- the same of the single amounts, but what was paid
pub amounts_stand : (fs : List Float) (ns : List ℕ) (paid : Float) → FLOATS ≤ length fs → Over nan 7 (set (amounts_of (table_at fs ns) paid) PAID (float_at fs PAID)) fs fs
amounts_stand fs ns paid room =
    let Again : ℕ → Type 0 = λ j. float_at fs j ≡ get_or (set (amounts_of (table_at fs ns) paid) PAID (float_at fs PAID)) j nan in
    let more = below_more Again in
    record {
      wide = omega arith;
      room = omega arith;
      long = refl;
      there = more 6 (more 5 (more 4 (more 3 (more 2 (more 1 (more 0 (below_none Again) refl) refl) refl) refl) refl) refl) refl;
      past = λ j h. refl;
    }

-- a list behind them is as it was while they alone are stored
pub lists_stand : (w fs fs' : List Float) → Over nan 7 w fs fs' → (o : ℕ) → STACKS ≤ o → o + 16 ≤ length fs → sixteen_at fs' o ≡ sixteen_at fs o
lists_stand w fs fs' v o h room = let long = v.long in sixteen_same fs o room fs' (omega (arith, room, long)) (λ i b. v.past (o + i) (omega arith))

-- where what was paid alone is stored, the floats are those of any table that has the same amounts
pub paid-alone : (fs : List Float) (ns : List ℕ) (u : GameState) (paid : Float)
    → FLOATS ≤ length fs
    → amounts_of (table_at fs ns) paid ≡ amounts_of u paid
    → sixteen_at fs STACKS ≡ u.stacks
    → sixteen_at fs STARTING_STACKS ≡ u.starting_stacks
    → sixteen_at fs HAND_BETS ≡ u.player_bet
    → sixteen_at fs WINNINGS ≡ u.player_winnings
    → sixteen_at fs ROUND_BETS ≡ u.round_data.player_bet
    → set fs PAID paid ≡ laid_floats u paid fs
paid-alone fs ns u paid room same a b c d e =
    let fs' = set fs PAID paid in
    let w = amounts_of (table_at fs ns) paid in
    let v : Over nan 7 w fs fs' = over_store nan 7 (set w PAID (float_at fs PAID)) fs fs PAID paid (omega arith) (amounts_stand fs ns paid room) in
    let list : (o : ℕ) → STACKS ≤ o → o + 16 ≤ FLOATS → sixteen_at fs' o ≡ sixteen_at fs o = λ o h k. lists_stand w fs fs' v o h (omega (arith, k, room)) in
    floats_are u paid fs fs' room
    (record {
      long = v.long;
      amounts = λ j h. v.there j h ∙ λ z. get_or (same z) j nan;
      stacks = list STACKS (omega arith) (omega arith) ∙ a;
      starting = list STARTING_STACKS (omega arith) (omega arith) ∙ b;
      bets = list HAND_BETS (omega arith) (omega arith) ∙ c;
      won = list WINNINGS (omega arith) (omega arith) ∙ d;
      round-bets = list ROUND_BETS (omega arith) (omega arith) ∙ e;
      rest = λ j h out. v.past j h;
    })

-- ---- what is read there is in the range of its type
pub fits-there : (fs : List Float) (ns : List ℕ) → Fits (table_at fs ns)
unfolding added_at
fits-there fs ns =
    let bits : (j : ℕ) → set_at ns j < 65536 = λ j. mod-lt (word_at ns j) (omega arith) in
    let byte : (j : ℕ) → byte_at ns j < 256 = λ j. mod-lt (word_at ns j) (omega arith) in
    record {
      lists = record {
        stacks = sixteen_long fs STACKS;
        starting = sixteen_long fs STARTING_STACKS;
        bets = sixteen_long fs HAND_BETS;
        won = sixteen_long fs WINNINGS;
        round-bets = sixteen_long fs ROUND_BETS;
      };
      numbers = record {
        active = bits PLAYER_ACTIVE;
        all_in = bits PLAYER_ALL_IN;
        start = bits STARTING_PLAYER_ACTIVE;
        owing = bits NEEDS_ACTION;
        total = byte TOTAL_BET_COUNT;
        raise = byte TOTAL_RAISE_COUNT;
        force = byte FORCED_BET_COUNT;
        cap = byte CAP;
        cards = refl;
        card0 = byte BOARD;
        card1 = byte (BOARD + 1);
        card2 = byte (BOARD + 2);
        card3 = byte (BOARD + 3);
        card4 = byte (BOARD + 4);
      };
      added = record { code = bits KEY_CODE; year = bits KEY_YEAR };
    }
