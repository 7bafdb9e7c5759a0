-- The bet in place. The payer is read as the table has it; and what is put is the table with that payer, since each place that is stored reads as it was
-- stored and the others are as they were. Assumes nothing.
use Prim.Native.Nat.{ℕ, ◌+◌, ◌<◌, ◌≤◌, ◌%◌}
use native.Mathlib.Nat.{mod-eq_of_lt, lt_of_lt_of_le}
use native.Mathlib.Omega.{arith}
use mathlib.Core.Path.{◌≡◌, refl, sym, ap, ◌∙◌}
use mathlib.Core.Bool.{Bool, true, false, cond}
use mathlib.Core.List.{List, [], ◌∷◌}
use lib.Dec.{eqb}
use lib.ListN.{get_or, set, length, length-set}
use lib.Seq.{get_or-set_same, get_or-set_other}
use lib.Ieee.{Float, nan}
use borrow.Author.Tests.{eqb-true, eqb-false}
use Rattle.seats.specs.Set.{of_bits}
use Rattle.rounds.specs.declared.paying.Payer.{Payer}
use Rattle.rounds.specs.Paying.{payer_of, stake_of}
use Rattle.rounds.specs.With.{data_of}
use Rattle.table.specs.Pay.{payer_in, with_payer}
use Rattle.table.specs.With.{table_of}
use Rattle.layout.specs.Places.{NUM_PLAYERS, DEALER_IDX, ROUND, ROUND_BEFORE, PLAYER_ACTIVE, PLAYER_ALL_IN, STARTING_PLAYER_ACTIVE, NEEDS_ACTION, TO_ACT_IDX, ROUND_LENGTH, TOTAL_BET_COUNT, TOTAL_RAISE_COUNT, FORCED_BET_COUNT, BB_POSTED, SB_POSTED, HAS_CAP, CAP, BOARD_LENGTH, BOARD, PASSED, ADDED, NUMBERS, TOTAL_POT, BIG_BLIND, SMALL_BLIND, ANTE, ROUND_BET, MIN_RAISE, PAID, STACKS, STARTING_STACKS, HAND_BETS, WINNINGS, ROUND_BETS, FLOATS}
use Rattle.layout.specs.Standing.{table_at}
use Rattle.layout.specs.Words.{word_at, set_at, byte_at, round_of, float_at, sixteen_at, word_of}
use Rattle.layout.proofs.LawsAdded.{added-same}
use Rattle.layout.proofs.Sixteen.{sixteen_long, sixteen_read, stored_apart, stored-within}
use Rattle.peatcloak.specs.Put.{floats_with, numbers_with, PayerFits, payer_on}

-- ---- the payer, as it is read: a float of a list of sixteen is the float at its place
module _ (fs : List Float) (ns : List ℕ) (long : FLOATS ≤ length fs) (low : word_at ns TO_ACT_IDX < 16) where
  pub payer_read : payer_of
      (stake_of (float_at fs (ROUND_BETS + word_at ns TO_ACT_IDX)) (float_at fs ROUND_BET) (float_at fs MIN_RAISE) (byte_at ns TOTAL_BET_COUNT) (byte_at ns TOTAL_RAISE_COUNT) (byte_at ns FORCED_BET_COUNT))
      (float_at fs (STACKS + word_at ns TO_ACT_IDX)) (float_at fs (HAND_BETS + word_at ns TO_ACT_IDX)) (float_at fs TOTAL_POT)
      (set_at ns PLAYER_ACTIVE) (set_at ns PLAYER_ALL_IN) (set_at ns NEEDS_ACTION) (word_at ns TO_ACT_IDX)
      ≡ payer_in (table_at fs ns)
  payer_read =
      let at : (o : ℕ) → o + 16 ≤ FLOATS → float_at fs (o + word_at ns TO_ACT_IDX) ≡ get_or (sixteen_at fs o) (word_at ns TO_ACT_IDX) nan = λ o h. sym (sixteen_read fs o (omega arith) (word_at ns TO_ACT_IDX) low) in
      λ i.
      payer_of
      (stake_of (at ROUND_BETS (omega arith) i) (float_at fs ROUND_BET) (float_at fs MIN_RAISE) (byte_at ns TOTAL_BET_COUNT) (byte_at ns TOTAL_RAISE_COUNT) (byte_at ns FORCED_BET_COUNT))
      (at STACKS (omega arith) i) (at HAND_BETS (omega arith) i) (float_at fs TOTAL_POT)
      (set_at ns PLAYER_ACTIVE) (set_at ns PLAYER_ALL_IN) (set_at ns NEEDS_ACTION) (word_at ns TO_ACT_IDX)

-- ---- a place of a list of n or more, store by store
module _ {A : Type 0} (d : A) (n j : ℕ) where
  by-test : (l : List A) (i : ℕ) (a : A) (t : Bool) → i < length l → eqb j i ≡ t → get_or (set l i a) j d ≡ cond t a (get_or l j d)
  by-test l i a true h e = ap (λ (k : ℕ). get_or (set l i a) k d) (eqb-true j i e) ∙ get_or-set_same l i a d h
  by-test l i a false h e = get_or-set_other l i j a d (eqb-false j i e)

  abbrev Reads : List A → A → Type 0
  Reads l r = (n ≤ length l) × (get_or l j d ≡ r)

  put : (l : List A) (i : ℕ) (a r : A) → i < n → Reads l r → Reads (set l i a) (cond (eqb j i) a r)
  put l i a r h g =
      let p = g.0 in
      (omega (arith, p, length-set l i a), by-test l i a (eqb j i) (lt_of_lt_of_le h p) refl ∙ λ z. cond (eqb j i) a (g.1 z))

-- ---- the floats after it
module _ (fs : List Float) (i : ℕ) (p : Payer) (paid : Float) (low : i < 16) (room : FLOATS ≤ length fs) where
  -- the single amounts stored, then the payer's stack, its hand bet and its round bet
  abbrev fs1 : List Float
  fs1 = set (set (set (set fs TOTAL_POT p.pot) ROUND_BET p.stake.bet) MIN_RAISE p.stake.min_raise) PAID paid

  abbrev fs2 : List Float
  fs2 = set fs1 (STACKS + i) p.stack

  abbrev fs3 : List Float
  fs3 = set fs2 (HAND_BETS + i) p.hand_bet

  abbrev fs4 : List Float
  fs4 = floats_with fs i p paid

  singles : (j : ℕ)
      → Reads nan FLOATS j fs1 (cond (eqb j PAID) paid (cond (eqb j MIN_RAISE) p.stake.min_raise (cond (eqb j ROUND_BET) p.stake.bet (cond (eqb j TOTAL_POT) p.pot (float_at fs j)))))
  singles j =
      let f1 = set fs TOTAL_POT p.pot in
      let f2 = set f1 ROUND_BET p.stake.bet in
      let f3 = set f2 MIN_RAISE p.stake.min_raise in
      put nan FLOATS j f3 PAID paid _ (omega arith)
      (put nan FLOATS j f2 MIN_RAISE p.stake.min_raise _ (omega arith)
      (put nan FLOATS j f1 ROUND_BET p.stake.bet _ (omega arith) (put nan FLOATS j fs TOTAL_POT p.pot _ (omega arith) (room, refl))))

  float_read : (j : ℕ) → j < STACKS → float_at fs4 j ≡ cond (eqb j PAID) paid (cond (eqb j MIN_RAISE) p.stake.min_raise (cond (eqb j ROUND_BET) p.stake.bet (cond (eqb j TOTAL_POT) p.pot (float_at fs j))))
  unfolding floats_with
  float_read j h =
      get_or-set_other fs3 (ROUND_BETS + i) j p.stake.round_bet nan (λ e. omega arith)
      ∙ get_or-set_other fs2 (HAND_BETS + i) j p.hand_bet nan (λ e. omega arith)
      ∙ get_or-set_other fs1 (STACKS + i) j p.stack nan (λ e. omega arith)
      ∙ (singles j).1

  long1 : FLOATS ≤ length fs1
  long1 = (singles 0).0

  long2 : FLOATS ≤ length fs2
  long2 = omega (arith, long1, length-set fs1 (STACKS + i) p.stack)

  long3 : FLOATS ≤ length fs3
  long3 = omega (arith, long2, length-set fs2 (HAND_BETS + i) p.hand_bet)

  -- sixteen places after the single amounts
  before : (o : ℕ) → STACKS ≤ o → o + 16 ≤ FLOATS → sixteen_at fs1 o ≡ sixteen_at fs o
  before o h k =
      let a = set fs TOTAL_POT p.pot in
      let b = set a ROUND_BET p.stake.bet in
      let c = set b MIN_RAISE p.stake.min_raise in
      let la = length-set fs TOTAL_POT p.pot in
      let lb = length-set a ROUND_BET p.stake.bet in
      let lc = length-set b MIN_RAISE p.stake.min_raise in
      stored_apart c o (omega (arith, la, lb, lc)) PAID paid (λ j l e. omega arith)
      ∙ stored_apart b o (omega (arith, la, lb)) MIN_RAISE p.stake.min_raise (λ j l e. omega arith)
      ∙ stored_apart a o (omega (arith, la)) ROUND_BET p.stake.bet (λ j l e. omega arith)
      ∙ stored_apart fs o (omega arith) TOTAL_POT p.pot (λ j l e. omega arith)

  -- a list of which no place is stored
  other : (o : ℕ) → STACKS ≤ o → o + 16 ≤ FLOATS
      → ((k : ℕ) → k < 16 → o + k ≡ STACKS + i → ⊥)
      → ((k : ℕ) → k < 16 → o + k ≡ HAND_BETS + i → ⊥)
      → ((k : ℕ) → k < 16 → o + k ≡ ROUND_BETS + i → ⊥)
      → sixteen_at fs4 o ≡ sixteen_at fs o
  unfolding floats_with
  other o h k x y z =
      stored_apart fs3 o (omega (arith, long3)) (ROUND_BETS + i) p.stake.round_bet z
      ∙ stored_apart fs2 o (omega (arith, long2)) (HAND_BETS + i) p.hand_bet y
      ∙ stored_apart fs1 o (omega (arith, long1)) (STACKS + i) p.stack x
      ∙ before o h k

  starting-read : sixteen_at fs4 STARTING_STACKS ≡ sixteen_at fs STARTING_STACKS
  starting-read = other STARTING_STACKS (omega arith) (omega arith) (λ k l e. omega arith) (λ k l e. omega arith) (λ k l e. omega arith)

  won-read : sixteen_at fs4 WINNINGS ≡ sixteen_at fs WINNINGS
  won-read = other WINNINGS (omega arith) (omega arith) (λ k l e. omega arith) (λ k l e. omega arith) (λ k l e. omega arith)

  stacks-read : sixteen_at fs4 STACKS ≡ set (sixteen_at fs STACKS) i p.stack
  unfolding floats_with
  stacks-read =
      stored_apart fs3 STACKS (omega (arith, long3)) (ROUND_BETS + i) p.stake.round_bet (λ k l e. omega arith)
      ∙ stored_apart fs2 STACKS (omega (arith, long2)) (HAND_BETS + i) p.hand_bet (λ k l e. omega arith)
      ∙ stored-within fs1 STACKS (omega (arith, long1)) i p.stack low
      ∙ λ z. set (before STACKS (omega arith) (omega arith) z) i p.stack

  bets-read : sixteen_at fs4 HAND_BETS ≡ set (sixteen_at fs HAND_BETS) i p.hand_bet
  unfolding floats_with
  bets-read =
      let kept = stored_apart fs1 HAND_BETS (omega (arith, long1)) (STACKS + i) p.stack (λ k l e. omega arith) ∙ before HAND_BETS (omega arith) (omega arith) in
      stored_apart fs3 HAND_BETS (omega (arith, long3)) (ROUND_BETS + i) p.stake.round_bet (λ k l e. omega arith)
      ∙ stored-within fs2 HAND_BETS (omega (arith, long2)) i p.hand_bet low
      ∙ λ z. set (kept z) i p.hand_bet

  round-bets-read : sixteen_at fs4 ROUND_BETS ≡ set (sixteen_at fs ROUND_BETS) i p.stake.round_bet
  unfolding floats_with
  round-bets-read =
      let kept = stored_apart fs2 ROUND_BETS (omega (arith, long2)) (HAND_BETS + i) p.hand_bet (λ k l e. omega arith) ∙ stored_apart fs1 ROUND_BETS (omega (arith, long1)) (STACKS + i) p.stack (λ k l e. omega arith) ∙ before ROUND_BETS (omega arith) (omega arith) in
      stored-within fs3 ROUND_BETS (omega (arith, long3)) i p.stake.round_bet low
      ∙ λ z. set (kept z) i p.stake.round_bet

-- ---- the words after it
module _ (ns : List ℕ) (p : Payer) (passed : ℕ) (room : NUMBERS ≤ length ns) where
  abbrev ns' : List ℕ
  ns' = numbers_with ns p passed

  word_read : (j : ℕ)
      → Reads 0 NUMBERS j ns'
      (cond (eqb j PASSED) (word_of passed) (cond (eqb j FORCED_BET_COUNT) p.stake.forced (cond (eqb j TOTAL_RAISE_COUNT) p.stake.raises (cond (eqb j TOTAL_BET_COUNT) p.stake.total (cond (eqb j TO_ACT_IDX) (word_of p.seat) (cond (eqb j NEEDS_ACTION) p.owing (cond (eqb j PLAYER_ALL_IN) p.all_in (cond (eqb j PLAYER_ACTIVE) p.active (word_at ns j)))))))))
  unfolding numbers_with
  word_read j =
      let n1 = set ns PLAYER_ACTIVE p.active in
      let n2 = set n1 PLAYER_ALL_IN p.all_in in
      let n3 = set n2 NEEDS_ACTION p.owing in
      let n4 = set n3 TO_ACT_IDX (word_of p.seat) in
      let n5 = set n4 TOTAL_BET_COUNT p.stake.total in
      let n6 = set n5 TOTAL_RAISE_COUNT p.stake.raises in
      let n7 = set n6 FORCED_BET_COUNT p.stake.forced in
      put 0 NUMBERS j n7 PASSED (word_of passed) _ (omega arith)
      (put 0 NUMBERS j n6 FORCED_BET_COUNT p.stake.forced _ (omega arith)
      (put 0 NUMBERS j n5 TOTAL_RAISE_COUNT p.stake.raises _ (omega arith)
      (put 0 NUMBERS j n4 TOTAL_BET_COUNT p.stake.total _ (omega arith)
      (put 0 NUMBERS j n3 TO_ACT_IDX (word_of p.seat) _ (omega arith)
      (put 0 NUMBERS j n2 NEEDS_ACTION p.owing _ (omega arith)
      (put 0 NUMBERS j n1 PLAYER_ALL_IN p.all_in _ (omega arith) (put 0 NUMBERS j ns PLAYER_ACTIVE p.active _ (omega arith) (room, refl))))))))

-- what is added stands behind them all
past : (l : List ℕ) (k a j : ℕ) → k < ADDED → ADDED ≤ j → word_at (set l k a) j ≡ word_at l j
past l k a j h g = get_or-set_other l k j a 0 (λ e. omega arith)

pub added-read : (ns : List ℕ) (p : Payer) (passed j : ℕ) → ADDED ≤ j → word_at (numbers_with ns p passed) j ≡ word_at ns j
unfolding numbers_with
added-read ns p passed j h =
    let n1 = set ns PLAYER_ACTIVE p.active in
    let n2 = set n1 PLAYER_ALL_IN p.all_in in
    let n3 = set n2 NEEDS_ACTION p.owing in
    let n4 = set n3 TO_ACT_IDX (word_of p.seat) in
    let n5 = set n4 TOTAL_BET_COUNT p.stake.total in
    let n6 = set n5 TOTAL_RAISE_COUNT p.stake.raises in
    let n7 = set n6 FORCED_BET_COUNT p.stake.forced in
    past n7 PASSED (word_of passed) j (omega arith) h
    ∙ past n6 FORCED_BET_COUNT p.stake.forced j (omega arith) h
    ∙ past n5 TOTAL_RAISE_COUNT p.stake.raises j (omega arith) h
    ∙ past n4 TOTAL_BET_COUNT p.stake.total j (omega arith) h
    ∙ past n3 TO_ACT_IDX (word_of p.seat) j (omega arith) h
    ∙ past n2 NEEDS_ACTION p.owing j (omega arith) h
    ∙ past n1 PLAYER_ALL_IN p.all_in j (omega arith) h
    ∙ past ns PLAYER_ACTIVE p.active j (omega arith) h

-- ---- the table after it is the one that stood there, with the payer
pub put-stands : (fs : List Float) (ns : List ℕ) (p : Payer) (paid : Float) (passed : ℕ)
    → FLOATS ≤ length fs
    → NUMBERS ≤ length ns
    → word_at ns TO_ACT_IDX < 16
    → PayerFits p
    → p.seat < 4294967296
    → table_at (floats_with fs (word_at ns TO_ACT_IDX) p paid) (numbers_with ns p passed) ≡ with_payer (table_at fs ns) p
put-stands fs ns p paid passed long longs low f seat =
    let i = word_at ns TO_ACT_IDX in
    let float = float_read fs i p paid low long in
    let word : (j : ℕ) → _ = λ j. (word_read ns p passed longs j).1 in
    λ z.
    table_of (word NUM_PLAYERS z)
    ((ap (λ (w : ℕ). w % 65536) (word PLAYER_ACTIVE) ∙ mod-eq_of_lt f.active) z)
    ((ap (λ (w : ℕ). w % 65536) (word PLAYER_ALL_IN) ∙ mod-eq_of_lt f.all_in) z)
    (float TOTAL_POT (omega arith) z)
    (stacks-read fs i p paid low long z)
    (starting-read fs i p paid low long z)
    (bets-read fs i p paid low long z)
    (won-read fs i p paid low long z)
    (float BIG_BLIND (omega arith) z)
    (float SMALL_BLIND (omega arith) z)
    (float ANTE (omega arith) z)
    (word DEALER_IDX z)
    (round_of (word ROUND z))
    (round_of (word ROUND_BEFORE z))
    (data_of (of_bits (word STARTING_PLAYER_ACTIVE z % 65536))
    (of_bits ((ap (λ (w : ℕ). w % 65536) (word NEEDS_ACTION) ∙ mod-eq_of_lt f.owing) z))
    (float MIN_RAISE (omega arith) z)
    (float ROUND_BET (omega arith) z)
    (round-bets-read fs i p paid low long z)
    (word ROUND_LENGTH z)
    ((ap (λ (w : ℕ). w % 256) (word TOTAL_BET_COUNT) ∙ mod-eq_of_lt f.total) z)
    ((ap (λ (w : ℕ). w % 256) (word TOTAL_RAISE_COUNT) ∙ mod-eq_of_lt f.raises) z)
    ((ap (λ (w : ℕ). w % 256) (word FORCED_BET_COUNT) ∙ mod-eq_of_lt f.forced) z)
    ((word TO_ACT_IDX ∙ mod-eq_of_lt seat) z))
    (word BOARD z % 256 ∷ word (BOARD + 1) z % 256 ∷ word (BOARD + 2) z % 256 ∷ word (BOARD + 3) z % 256 ∷ word (BOARD + 4) z % 256 ∷ [])
    (word BOARD_LENGTH z)
    (eqb (word BB_POSTED z) 1)
    (eqb (word SB_POSTED z) 1)
    (eqb (word HAS_CAP z) 1)
    (word CAP z % 256)
    (added-same (numbers_with ns p passed) ns (λ j l h. added-read ns p passed j l) z)

-- ---- the payer of the table after it is the one that was put
pub put_payer : (fs : List Float) (ns : List ℕ) (p : Payer) → word_at ns TO_ACT_IDX < 16 → payer_on (with_payer (table_at fs ns) p) (word_at ns TO_ACT_IDX) ≡ p
put_payer fs ns p low =
    let i = word_at ns TO_ACT_IDX in
    let here : (o : ℕ) (x : Float) → get_or (set (sixteen_at fs o) i x) i nan ≡ x = λ o x. get_or-set_same (sixteen_at fs o) i x nan (omega (arith, sixteen_long fs o)) in
    λ z.
    payer_of (stake_of (here ROUND_BETS p.stake.round_bet z) p.stake.bet p.stake.min_raise p.stake.total p.stake.raises p.stake.forced)
    (here STACKS p.stack z) (here HAND_BETS p.hand_bet z) p.pot p.active p.all_in p.owing p.seat
