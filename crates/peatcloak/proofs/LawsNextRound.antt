-- The next round in place: what it stores makes of the lists that stood there the lists with the next round's table laid; where the hand is complete,
-- it stores the answers alone. Assumes nothing.
use Prim.Native.Nat.{ℕ, suc, ◌+◌, ◌-◌, ◌<◌, ◌≤◌}
use native.Mathlib.Numerals.{add-one}
use native.Mathlib.Omega.{arith}
use mathlib.Core.Path.{◌≡◌, refl, sym, subst, ◌∙◌}
use mathlib.Core.Logic.{◌≢◌, ⊎_elim}
use mathlib.Core.Bool.{true, false, ◌&&◌}
use mathlib.Core.List.{List, ◌++◌}
use lib.Dec.{eqb}
use lib.ListN.{get_or, set, length, take, replicate}
use lib.Ieee.{Float, nan}
use borrow.Author.Tests.{eq-eqb, ne_eqb, ltb-true}
use borrow.Rule.Slice.PartMut.{put_mid}
use Rattle.std.proofs.lemmas.List.{drop-drop, length-replicate, get_or-replicate}
use Rattle.std.proofs.lemmas.List.Edits.{paste_all}
use Rattle.commons.specs.Filled.{laid}
use Rattle.commons.proofs.Filled.{filled-long, filled_at, filled-out, laid_cong, laid-long, laid_out, laid-at}
use Rattle.commons.proofs.Pasted.{laid_pasted}
use Rattle.commons.proofs.Order.{lt_or_le}
use Rattle.commons.proofs.Tests.{test_at}
use Rattle.floats.specs.Helpers.{zerof}
use Rattle.amounts.specs.Amounts.{cleared_to}
use Rattle.refusals.specs.declared.Refusal.TheVariants.{Added}
use Rattle.refusals.specs.declared.AddedError.TheVariants.{BadRecord}
use Rattle.rounds.specs.declared.walking.Reached.{Reached}
use Rattle.rounds.specs.Order.{next_of, round_number}
use Rattle.table.specs.declared.GameState.{GameState}
use Rattle.table.specs.declared.TableStep.{TableStep}
use Rattle.table.specs.Answers.{done, refused}
use Rattle.table.specs.Rounds.{first_turn, opening_turn, advanced_step, advance_of}
use Rattle.table.specs.Sound.{sound_of}
use Rattle.table.proofs.LawsSound.{advanced_sound}
use Rattle.table.proofs.Sound.{Sound, sound}
use Rattle.layout.specs.Fits.{Fits}
use Rattle.layout.specs.Laid.{numbers_of, laid_numbers, amounts_of, laid_floats}
use Rattle.layout.specs.Places.{NUM_PLAYERS, DEALER_IDX, ROUND, ROUND_BEFORE, PLAYER_ACTIVE, STARTING_PLAYER_ACTIVE, NEEDS_ACTION, TO_ACT_IDX, ROUND_LENGTH, TOTAL_BET_COUNT, TOTAL_RAISE_COUNT, FORCED_BET_COUNT, PASSED, ADDED, NUMBERS, BIG_BLIND, ROUND_BET, MIN_RAISE, PAID, STACKS, STARTING_STACKS, HAND_BETS, WINNINGS, ROUND_BETS, FLOATS}
use Rattle.layout.specs.Standing.{word_tests, words_fit, sound_in, table_at}
use Rattle.layout.specs.Words.{word_at, set_at, round_of, float_at, sixteen_at, word_of}
use Rattle.layout.proofs.LawsStores.{Over, over_store, number_store, numbers_are, added-fits, floats_are, numbers_stand, amounts_stand, lists_stand, paid-alone, fits-there}
use Rattle.layout.proofs.Rounds.{number-again}
use Rattle.layout.proofs.Sixteen.{sixteen_long, sixteen_read, sixteen_same, sixteen_all}
use Rattle.peatcloak.specs.Calls.{stepped}
use Rattle.peatcloak.proofs.LawsBet.{sound-there}
use Rattle.peatcloak.proofs.LawsCalls.{Answered, step-laid}

-- ---- what is stored: of the floats, and of the numbers
abbrev pub bets_cleared : ℕ → List Float → List Float
bets_cleared n fs = laid ROUND_BETS n fs (λ k. zerof)

-- zeros between what stood before and behind them
pub bets-filled : (fs : List Float) (n : ℕ) (p : List Float) → ROUND_BETS + n ≤ length fs → p ≡ replicate n zerof → put_mid ROUND_BETS (ROUND_BETS + n - ROUND_BETS) fs p ≡ bets_cleared n fs
bets-filled fs n p h e =
    let z : List Float = replicate n zerof in
    let a : ROUND_BETS + n - ROUND_BETS ≡ n = omega arith in
    let long : n ≡ length z = sym (length-replicate n zerof) in
    (λ i. put_mid ROUND_BETS (a i) fs (e i))
    ∙ (λ i. take ROUND_BETS fs ++ (z ++ drop-drop n ROUND_BETS fs i))
    ∙ sym (paste_all fs ROUND_BETS z n long)
    ∙ sym (laid_pasted nan ROUND_BETS fs z n h (omega arith))
    ∙ laid_cong ROUND_BETS fs _ _ n (λ k b. get_or-replicate n k zerof nan b)

abbrev round_floats : List Float → ℕ → List Float
round_floats fs n = bets_cleared n (set (set (set fs ROUND_BET zerof) MIN_RAISE (float_at fs BIG_BLIND)) PAID zerof)

abbrev round_numbers : List ℕ → ℕ → ℕ → ℕ → Reached → List ℕ
round_numbers ns round active n w =
    let owed = set (set (set (set ns ROUND (round + 1)) ROUND_BEFORE round) STARTING_PLAYER_ACTIVE active) NEEDS_ACTION active in
    let turn = set (set owed TO_ACT_IDX (word_of w.seat)) ROUND_LENGTH (word_of n) in
    set (set (set (set turn TOTAL_BET_COUNT 0) TOTAL_RAISE_COUNT 0) FORCED_BET_COUNT 0) PASSED (word_of w.passed)

-- ---- the step by its tests
module _ (t : GameState) where
  pub advance-bad : sound_of t ≡ false → refused (Added BadRecord) t ≡ advance_of t
  unfolding advance_of
  advance-bad s = rw s

  advance-over : sound_of t ≡ true → round_number t.round ≡ 11 → done 0 t ≡ advance_of t
  unfolding advance_of
  advance-over s e = rw (s, eq-eqb _ _ e)

  advance-next : sound_of t ≡ true → round_number t.round ≢ 11 → advanced_step t ≡ advance_of t
  unfolding advance_of
  advance-next s e = rw (s, ne_eqb _ _ e)

-- the round after a round's number
next-number : (r : ℕ) → r < 12 → r ≢ 11 → round_number (next_of (round_of r)) ≡ r + 1
unfolding round_of
next-number r h e = number-again (suc r) (omega (arith, h, e)) ∙ sym (add-one r)

pub round-low : (ns : List ℕ) → words_fit ns ≡ true → word_at ns ROUND < 12
unfolding words_fit
round-low ns fit = ltb-true _ _ (test_at (word_tests ns) fit 0)

pub seats-few : (fs : List Float) (ns : List ℕ) → sound_in ns ≡ true → word_at ns NUM_PLAYERS ≤ 16
seats-few fs ns s = (sound (table_at fs ns) (sound-there fs ns s)).most

-- ---- the floats: single amounts stored, and then the bets of the round cleared up to n
module _ (fs fs1 w : List Float) (n : ℕ) (long : FLOATS ≤ length fs) (few : n ≤ 16) (v : Over nan 7 w fs fs1) where
  abbrev fs2 : List Float
  fs2 = bets_cleared n fs1

  long1 : FLOATS ≤ length fs1
  long1 = let e = v.long in omega (arith, long, e)

  long2 : FLOATS ≤ length fs2
  long2 = omega (arith, long1, laid-long ROUND_BETS fs1 (λ k. zerof) n)

  out : (j : ℕ) → ((k : ℕ) → k < n → j ≡ ROUND_BETS + k → ⊥) → float_at fs2 j ≡ float_at fs1 j
  out j h = laid_out ROUND_BETS fs1 (λ k. zerof) n j nan h

  list : (o : ℕ) → STACKS ≤ o → o + 16 ≤ ROUND_BETS → sixteen_at fs2 o ≡ sixteen_at fs o
  list o h k =
      sixteen_same fs1 o (omega (arith, k, long1)) fs2 (omega (arith, k, long2)) (λ i b. out (o + i) (λ m c e. omega arith))
      ∙ lists_stand w fs fs1 v o h (omega (arith, k, long))

  cleared : sixteen_at fs2 ROUND_BETS ≡ cleared_to n (sixteen_at fs ROUND_BETS)
  cleared =
      let l = sixteen_at fs ROUND_BETS in
      sixteen_all fs2 ROUND_BETS (omega (arith, long2)) (cleared_to n l) (filled-long l (λ k. zerof) _ ∙ sixteen_long fs ROUND_BETS)
      (λ i b.
      ⊎_elim
      (λ h. laid-at ROUND_BETS fs1 (λ k. zerof) n i nan h (omega (arith, few, long1)) ∙ sym (filled_at l (λ k. zerof) _ i nan (omega arith) (omega (arith, sixteen_long fs ROUND_BETS))))
      (λ h. out (ROUND_BETS + i) (λ m c e. omega arith) ∙ v.past (ROUND_BETS + i) (omega arith) ∙ sym (sixteen_read fs ROUND_BETS (omega arith) i b) ∙ sym (filled-out l (λ k. zerof) _ i nan (omega arith)))
      (lt_or_le i n))

  cleared_are : (u : GameState)
      → w ≡ amounts_of u zerof
      → sixteen_at fs STACKS ≡ u.stacks
      → sixteen_at fs STARTING_STACKS ≡ u.starting_stacks
      → sixteen_at fs HAND_BETS ≡ u.player_bet
      → sixteen_at fs WINNINGS ≡ u.player_winnings
      → cleared_to n (sixteen_at fs ROUND_BETS) ≡ u.round_data.player_bet
      → fs2 ≡ laid_floats u zerof fs
  cleared_are u e a b c d f =
      floats_are u zerof fs fs2 long
      (record {
        long = laid-long ROUND_BETS fs1 (λ k. zerof) n ∙ v.long;
        amounts = λ j h. out j (λ m g i. omega arith) ∙ v.there j h ∙ λ z. get_or (e z) j nan;
        stacks = list STACKS (omega arith) (omega arith) ∙ a;
        starting = list STARTING_STACKS (omega arith) (omega arith) ∙ b;
        bets = list HAND_BETS (omega arith) (omega arith) ∙ c;
        won = list WINNINGS (omega arith) (omega arith) ∙ d;
        round-bets = cleared ∙ f;
        rest = λ j h g. out j (λ m c e. g (omega arith) (omega arith)) ∙ v.past j h;
      })

-- ---- on a sound table
module _ (fs : List Float) (ns : List ℕ) (long : FLOATS ≤ length fs) (longs : NUMBERS ≤ length ns) (fit : words_fit ns ≡ true) (s : sound_in ns ≡ true) where
  abbrev t : GameState
  t = table_at fs ns

  stood : Sound t
  stood = sound t (sound-there fs ns s)

  more : (w ms : List ℕ) (i a : ℕ) → i < ADDED → Over 0 ADDED w ns ms → Over 0 ADDED (set w i a) ns (set ms i a)
  more = number_store ns

  pay : (w gs : List Float) (i : ℕ) (x : Float) → i < 7 → Over nan 7 w fs gs → Over nan 7 (set w i x) fs (set gs i x)
  pay w gs = over_store nan 7 w fs gs

  still : (k : ℕ) (u : GameState) → done k u ≡ advance_of t → sound_of u ≡ true
  still k u e = subst (λ (v : TableStep). sound_of v.table ≡ true) (sym e) (advanced_sound t (sound-there fs ns s))

  -- ---- the hand is complete
  over_floats : set fs PAID zerof ≡ laid_floats t zerof fs
  over_floats = paid-alone fs ns t zerof long refl refl refl refl refl refl

  over-numbers : set ns PASSED 0 ≡ laid_numbers t 0 ns
  over-numbers = numbers_are t 0 ns (set ns PASSED 0) longs (more _ _ PASSED 0 (omega arith) (numbers_stand fs ns fit stood 0 longs)) (added-fits ns fit) refl

  pub is-over : (round : ℕ) → round ≡ word_at ns ROUND → round ≡ 11 → Answered fs ns (stepped (advance_of t)) 0 (set fs PAID zerof) (set ns PASSED 0)
  is-over round read e =
      let is = advance-over t (sound-there fs ns s) (number-again _ (round-low ns fit) ∙ sym read ∙ e) in
      step-laid fs ns (advance_of t) 0 t _ _ long longs is (still 0 t is) (fits-there fs ns) over_floats over-numbers

  -- ---- it is not: the first turn, the table after it and its words
  abbrev turn : Reached
  turn = opening_turn t

  abbrev u : GameState
  u = (advanced_step t).table

  abbrev r : ℕ
  r = word_at ns ROUND

  abbrev active : ℕ
  active = set_at ns PLAYER_ACTIVE

  abbrev n : ℕ
  n = word_at ns NUM_PLAYERS

  next_floats : round_floats fs n ≡ laid_floats u zerof fs
  next_floats =
      let v : Over nan 7 (amounts_of u zerof) fs (set (set (set fs ROUND_BET zerof) MIN_RAISE (float_at fs BIG_BLIND)) PAID zerof) = pay _ _ PAID zerof (omega arith)
      (pay _ _ MIN_RAISE (float_at fs BIG_BLIND) (omega arith) (pay _ _ ROUND_BET zerof (omega arith) (amounts_stand fs ns zerof long))) in
      cleared_are fs _ (amounts_of u zerof) n long stood.most v u refl refl refl refl refl refl

  next-numbers : r ≢ 11 → round_numbers ns r active n turn ≡ laid_numbers u turn.passed ns
  next-numbers h =
      let w = numbers_of u turn.passed in
      let now : r ≡ round_number (round_of r) = sym (number-again r (round-low ns fit)) in
      let next : r + 1 ≡ round_number (next_of (round_of r)) = sym (next-number r (round-low ns fit) h) in
      let v : Over 0 ADDED (set (set w ROUND (r + 1)) ROUND_BEFORE r) ns (round_numbers ns r active n turn) = more _ _ PASSED (word_of turn.passed) (omega arith)
      (more _ _ FORCED_BET_COUNT 0 (omega arith)
      (more _ _ TOTAL_RAISE_COUNT 0 (omega arith)
      (more _ _ TOTAL_BET_COUNT 0 (omega arith)
      (more _ _ ROUND_LENGTH (word_of n) (omega arith)
      (more _ _ TO_ACT_IDX (word_of turn.seat) (omega arith)
      (more _ _ NEEDS_ACTION active (omega arith)
      (more _ _ STARTING_PLAYER_ACTIVE active (omega arith)
      (more _ _ ROUND_BEFORE r (omega arith) (more _ _ ROUND (r + 1) (omega arith) (numbers_stand fs ns fit stood turn.passed longs)))))))))) in
      numbers_are u turn.passed ns (round_numbers ns r active n turn) longs
      (subst (λ (ws : List ℕ). Over 0 ADDED ws ns (round_numbers ns r active n turn)) (λ z. set (set w ROUND (next z)) ROUND_BEFORE (now z)) v) (added-fits ns fit) refl

  next_fits : Fits u
  next_fits =
      let f = fits-there fs ns in
      let l = f.lists in
      let m = f.numbers in
      record {
        lists = record {
          stacks = l.stacks;
          starting = l.starting;
          bets = l.bets;
          won = l.won;
          round-bets = filled-long (sixteen_at fs ROUND_BETS) (λ k. zerof) _ ∙ l.round-bets;
        };
        numbers = record {
          active = m.active;
          all_in = m.all_in;
          start = m.active;
          owing = m.active;
          total = omega arith;
          raise = omega arith;
          force = omega arith;
          cap = m.cap;
          cards = m.cards;
          card0 = m.card0;
          card1 = m.card1;
          card2 = m.card2;
          card3 = m.card3;
          card4 = m.card4;
        };
        added = f.added;
      }

  pub is-next : (round seats owing dealer : ℕ) (w : Reached) (fs' : List Float) (ns' : List ℕ)
      → round ≡ r
      → round ≢ 11
      → seats ≡ n
      → owing ≡ active
      → dealer ≡ word_at ns DEALER_IDX
      → w ≡ first_turn (eqb (round + 1) 3 && eqb seats 2) owing seats dealer
      → fs' ≡ round_floats fs seats
      → ns' ≡ round_numbers ns round owing seats w
      → Answered fs ns (stepped (advance_of t)) 0 fs' ns'
  is-next round seats owing dealer w fs' ns' e h a b c walked f g =
      let other : r ≢ 11 = λ q. h (e ∙ q) in
      let next : round + 1 ≡ round_number (next_of (round_of r)) = (λ z. e z + 1) ∙ sym (next-number r (round-low ns fit) other) in
      let turns : w ≡ turn = walked ∙ λ z. first_turn (eqb (next z) 3 && eqb (a z) 2) (b z) (a z) (c z) in
      let is = advance-next t (sound-there fs ns s) (λ q. other (sym (number-again r (round-low ns fit)) ∙ q)) in
      step-laid fs ns (advance_of t) turn.passed u fs' ns' long longs is (still turn.passed u is) next_fits
      (f ∙ (λ z. round_floats fs (a z)) ∙ next_floats)
      (g ∙ (λ z. round_numbers ns (e z) (b z) (a z) (turns z)) ∙ next-numbers other)
