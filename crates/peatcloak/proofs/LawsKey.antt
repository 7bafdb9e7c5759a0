-- The key of the hand across the boundary, over all calls on a table at once. The key that stands in the lists stays (`key-stays`), and no word from FREE on
-- is written (`free_stays`). On lists that tell the same table with another good key, a call comes to the same, but for the key (`key_apart`), and what is
-- asked is told the same (`asked_apart`, `reward_told_apart`, `rewards_apart`). Assumes nothing.
use Rattle.std.specs.Prelude.{Err}
use Prim.Native.Nat.{ℕ, ◌≤◌, ◌<◌}
use native.Mathlib.Omega.{arith}
use mathlib.Core.Path.{◌≡◌, refl, sym, ap, ◌∙◌}
use mathlib.Core.Logic.{⊎_elim}
use mathlib.Core.Bool.{Bool, true, false, cond, ◌&&◌}
use mathlib.Core.List.{List, [], ◌∷◌}
use borrow.Author.Tests.{eqb-true}
use lib.Dec.{eqb, leb}
use lib.ListN.{length}
use lib.Ieee.{Float}
use Rattle.commons.proofs.Bools.{either, pick}
use Rattle.floats.specs.Helpers.{zerof}
use Rattle.refusals.specs.declared.Refusal.TheVariants.{Added}
use Rattle.refusals.specs.declared.AddedError.TheVariants.{BadRecord}
use Rattle.seats.specs.Bits.{count_to}
use Rattle.keys.specs.declared.HandKey.{HandKey}
use Rattle.keys.specs.Keys.{is_good}
use Rattle.table.specs.declared.GameState.{GameState}
use Rattle.table.specs.Added.{good_added}
use Rattle.table.specs.Pay.{actor, bet_of, fold_of, award_of, reward_of}
use Rattle.table.specs.Queries.{is_capped, is_complete}
use Rattle.table.specs.Rounds.{advance_of, complete_of}
use Rattle.table.proofs.LawsKey.{rekeyed, chosen, bet-carries, fold-carries, advance-carries, complete-carries, award-carries, bet_apart, fold_apart, advance_apart, complete_apart, award_apart, reward_apart, sound_apart}
use Rattle.settlement.specs.declared.Settled.{Settled}
use Rattle.settlement.specs.Settlement.{settled_of}
use Rattle.settlement.proofs.LawsKey.{settled-carries, settled_apart}
use Rattle.layout.specs.Added.{added_at, added_fits}
use Rattle.layout.specs.Outcome.{Outcome, outcome, numbers_after}
use Rattle.layout.specs.Laid.{laid_numbers, numbers_laid}
use Rattle.layout.specs.Places.{TO_ACT_IDX, ADDED, FREE}
use Rattle.layout.specs.Standing.{room_for, table_at, stands_in}
use Rattle.layout.specs.Words.{word_at, word_of, flag_of}
use Rattle.layout.proofs.LawsFree.{table_but_key, fits_but_key, free_kept}
use Rattle.peatcloak.specs.Asking.{reward_on, amounts_asked, answers_asked, is_asked}
use Rattle.peatcloak.specs.Calls.{stepped, wagered, nothing_there, on, bet_on, fold_on, advance_on, complete_on, award_on, Stands}
use Rattle.peatcloak.specs.Put.{numbers_with, payer_on, numbers_put}
use Rattle.peatcloak.proofs.LawsPut.{added-read}
use Rattle.peatcloak.specs.Settling.{ranks_at, settled_at, paid_out, settle_on}

-- ---- the calls that leave a table, with what each comes to; a settlement has ranks, and so many places for rewards
pub data Call : Type 0 where
  bet : Float → Bool → Call
  fold : Call
  advance : Call
  complete : Call
  award : ℕ → Float → Call
  settle : List ℕ → ℕ → Call

pub comes_to : Call → List Float → List ℕ → Outcome
comes_to (bet a forced) fs ns = bet_on fs ns a forced
comes_to fold fs ns = fold_on fs ns
comes_to advance fs ns = advance_on fs ns
comes_to complete fs ns = complete_on fs ns
comes_to (award i x) fs ns = award_on fs ns i x
comes_to (settle ranks rewards) fs ns = settle_on fs ns ranks rewards

-- the words that it leaves, as its promise says: a bet writes in place, the others lay the table
pub leaves : Call → List Float → List ℕ → List ℕ
leaves (bet a forced) fs ns = numbers_put ns (bet_on fs ns a forced)
leaves fold fs ns = numbers_after (length fs) (fold_on fs ns) ns
leaves advance fs ns = numbers_after (length fs) (advance_on fs ns) ns
leaves complete fs ns = numbers_after (length fs) (complete_on fs ns) ns
leaves (award i x) fs ns = numbers_after (length fs) (award_on fs ns i x) ns
leaves (settle ranks rewards) fs ns = numbers_after (length fs) (settle_on fs ns ranks rewards) ns

-- ---- the key stays
module _ (fs : List Float) (ns : List ℕ) where
  abbrev Carries : Outcome → Type 0
  Carries o = o.table.added ≡ added_at ns

  on-carries : (o : Outcome) → Carries o → Carries (on fs ns o)
  on-carries o e = pick Carries (stands_in fs ns) o (nothing_there fs ns) e refl

  carries : (c : Call) → Carries (comes_to c fs ns)
  unfolding comes_to
  carries (bet a forced) = on-carries (wagered (bet_of (table_at fs ns) a forced)) (bet-carries (table_at fs ns) a forced)
  carries fold = on-carries (stepped (fold_of (table_at fs ns))) (fold-carries (table_at fs ns))
  carries advance = on-carries (stepped (advance_of (table_at fs ns))) (advance-carries (table_at fs ns))
  carries complete = on-carries (stepped (complete_of (table_at fs ns))) (complete-carries (table_at fs ns))
  carries (award i x) = on-carries (stepped (award_of (table_at fs ns) i x)) (award-carries (table_at fs ns) i x)
  carries (settle ranks rewards) =
      pick Carries ((leb 16 (length ranks) && leb 16 rewards) && stands_in fs ns) (paid_out (settled_at fs ns ranks)) (nothing_there fs ns) (settled-carries (table_at fs ns) (ranks_at ranks)) refl

  -- where it is refused nothing is written
  refused-leaves : (c : Call) → eqb (comes_to c fs ns).number 0 ≡ false → leaves c fs ns ≡ ns
  unfolding comes_to leaves
  refused-leaves (bet a forced) e = rw e
  refused-leaves fold e = rw e
  refused-leaves advance e = rw e
  refused-leaves complete e = rw e
  refused-leaves (award i x) e = rw e
  refused-leaves (settle ranks rewards) e = rw e

  -- ---- no word from FREE on is written
  abbrev Free : List ℕ → Type 0
  Free ms = (j : ℕ) → FREE ≤ j → word_at ms j ≡ word_at ns j

  -- whatever is laid, by a build or a script too
  pub laid_free : (o : Outcome) → Free (numbers_after (length fs) o ns)
  laid_free o =
      pick Free (eqb o.number 0) (numbers_laid (length fs) o.table o.passed ns) ns
      (pick Free (room_for (length fs) (length ns)) (laid_numbers o.table o.passed ns) ns (free_kept o.table o.passed ns) (λ j h. refl)) (λ j h. refl)

  put_free : (o : Outcome) → Free (numbers_put ns o)
  put_free o = pick Free (eqb o.number 0) (numbers_with ns (payer_on o.table (word_at ns TO_ACT_IDX)) o.passed) ns (λ j h. added-read ns _ o.passed j (omega arith)) (λ j h. refl)

  pub free_stays : (c : Call) (j : ℕ) → FREE ≤ j → word_at (leaves c fs ns) j ≡ word_at ns j
  unfolding leaves
  free_stays (bet a forced) = put_free (bet_on fs ns a forced)
  free_stays fold = laid_free (fold_on fs ns)
  free_stays advance = laid_free (advance_on fs ns)
  free_stays complete = laid_free (complete_on fs ns)
  free_stays (award i x) = laid_free (award_on fs ns i x)
  free_stays (settle ranks rewards) = laid_free (settle_on fs ns ranks rewards)

  -- r, fs' and ns' are what a call that keeps its promise answers and leaves
  pub key-stays : (c : Call) (r : ℕ) (fs' : List Float) (ns' : List ℕ) → r ≡ (comes_to c fs ns).number → ns' ≡ leaves c fs ns → Stands r fs' ns' (comes_to c fs ns) → added_at ns' ≡ added_at ns
  key-stays c r fs' ns' e f s =
      ⊎_elim (λ z. ap (λ (t : GameState). t.added) (s (e ∙ eqb-true _ _ z)) ∙ carries c) (λ z. ap added_at (f ∙ refused-leaves c z)) (either (eqb (comes_to c fs ns).number 0))

-- ---- lists with another good key: ms agrees with ns below ADDED
abbrev pub outcome_rekeyed : HandKey → Outcome → Outcome
outcome_rekeyed k o = outcome o.number (rekeyed k o.table) o.paid o.passed

pub record Alike (ns ms : List ℕ) : Type 0 where
  pub long : length ms ≡ length ns
  pub same : (j : ℕ) → j < ADDED → word_at ms j ≡ word_at ns j
  pub fits : added_fits ns ≡ true
  pub fits_too : added_fits ms ≡ true
  pub good : is_good (added_at ns).key ≡ true
  pub good_too : is_good (added_at ms).key ≡ true

module _ (fs : List Float) (ns ms : List ℕ) (a : Alike ns ms) where
  abbrev t : GameState
  t = table_at fs ns

  abbrev k : HandKey
  k = (added_at ms).key

  table_is : table_at fs ms ≡ rekeyed k t
  table_is = table_but_key ns ms a.same fs

  stands_same : stands_in fs ms ≡ stands_in fs ns
  stands_same = λ i. room_for (length fs) (a.long i) && fits_but_key ns ms a.same (a.fits_too ∙ sym a.fits) i

  good : good_added t.added ≡ true
  unfolding good_added
  good = a.good

  -- of what a step comes to
  on_apart : (f : GameState → Outcome) → f (rekeyed k t) ≡ outcome_rekeyed k (f t) → on fs ms (f (table_at fs ms)) ≡ outcome_rekeyed k (on fs ns (f t))
  on_apart f e =
      (λ i. cond (stands_same i) (f (table_is i)) (outcome 19 (table_is i) zerof 0))
      ∙ (λ i. cond (stands_in fs ns) (e i) (outcome 19 (rekeyed k t) zerof 0))
      ∙ chosen (outcome_rekeyed k) (stands_in fs ns) (f t) (nothing_there fs ns)

  pub key_apart : (c : Call) → comes_to c fs ms ≡ outcome_rekeyed k (comes_to c fs ns)
  unfolding comes_to
  key_apart (bet x forced) = on_apart (λ u. wagered (bet_of u x forced)) (λ i. wagered (bet_apart t k good a.good_too x forced i))
  key_apart fold = on_apart (λ u. stepped (fold_of u)) (λ i. stepped (fold_apart t k good a.good_too i))
  key_apart advance = on_apart (λ u. stepped (advance_of u)) (λ i. stepped (advance_apart t k good a.good_too i))
  key_apart complete = on_apart (λ u. stepped (complete_of u)) (λ i. stepped (complete_apart t k good a.good_too i))
  key_apart (award j x) = on_apart (λ u. stepped (award_of u j x)) (λ i. stepped (award_apart t k good a.good_too j x i))
  key_apart (settle ranks rewards) =
      let room = leb 16 (length ranks) && leb 16 rewards in
      (λ i. cond (room && stands_same i) (paid_out (settled_of (table_is i) (ranks_at ranks))) (outcome 19 (table_is i) zerof 0))
      ∙ (λ i. cond (room && stands_in fs ns) (paid_out (settled_apart t k good a.good_too (ranks_at ranks) i)) (outcome 19 (rekeyed k t) zerof 0))
      ∙ chosen (outcome_rekeyed k) (room && stands_in fs ns) (paid_out (settled_at fs ns ranks)) (nothing_there fs ns)

  -- ---- what is asked: whether anything is told, the amounts and the answers, and the reward
  pub asked_apart : (i amounts answers : ℕ)
      → (is_asked fs ms amounts answers ≡ is_asked fs ns amounts answers) × ((amounts_asked (table_at fs ms) i ≡ amounts_asked t i) × (answers_asked (table_at fs ms) ≡ answers_asked t))
  asked_apart i amounts answers = (
    (λ z. (leb 6 amounts && leb 7 answers) && stands_same z),
    (
      (λ z. amounts_asked (table_is z) i),
      (λ z. answers_asked (table_is z)) ∙ λ z. flag_of (is_capped t) ∷ word_of (count_to 16 t.player_active.set) ∷ word_of (count_to 16 t.player_all_in.set) ∷ flag_of (is_complete t) ∷ word_of (actor t) ∷ word_of (count_to 16 t.round_data.needs_action.set) ∷ flag_of (sound_apart t k good a.good_too z) ∷ [],
    ),
  )

  pub reward_told_apart : (i room : ℕ) → reward_on fs ms i room ≡ reward_on fs ns i room
  reward_told_apart i room = (λ z. cond (leb 1 room && stands_same z) (reward_of (table_is z) i) (Err (Added BadRecord))) ∙ λ z. cond (leb 1 room && stands_in fs ns) (reward_apart t k good a.good_too i z) (Err (Added BadRecord))

  -- ---- and the rewards of a settlement
  pub rewards_apart : (ranks : List ℕ) → (settled_at fs ms ranks).rewards ≡ (settled_at fs ns ranks).rewards
  rewards_apart ranks = ap (λ (s : Settled). s.rewards) ((λ i. settled_of (table_is i) (ranks_at ranks)) ∙ settled_apart t k good a.good_too (ranks_at ranks))
