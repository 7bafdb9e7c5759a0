-- What is seen of the table's record in whole chips, and that the tests of good order, their last read as "if any seat owes, the seat to act does", say just this:
-- the record is sound, its amounts are whole, and what is seen of it is in good order in numbers. Assumes nothing.
use Prim.Native.Nat.{ℕ, ◌<◌}
use native.Mathlib.Omega.{arith}
use mathlib.Core.Path.{◌≡◌, refl}
use mathlib.Core.Logic.{⊎_elim}
use mathlib.Core.Bool.{Bool, true, false, ◌&&◌, ◌||◌, or-true}
use lib.Dec.{eqb}
use borrow.Author.Tests.{le-leb, leb-true, eq-eqb, ne_eqb, eqb-true, eqb-false}
use Rattle.commons.specs.Tests.{all_of}
use Rattle.commons.proofs.Tests.{test_at}
use Rattle.seats.specs.Bits.{has}
use Rattle.commons.proofs.Bools.{either, if_true, true_if}
use Rattle.chips.specs.Whole.{most, is_whole, chips_in, all_whole, sum_chips}
use Rattle.commons.proofs.Folds.{all-at, all_hold}
use Rattle.table.specs.declared.GameState.{GameState}
use Rattle.table.specs.Pay.{actor}
use Rattle.table.specs.Sound.{sound_of}
use Rattle.table.proofs.Sound.{sound}
use Rattle.order.specs.GoodOrder.{chips_at, chips_of, owing, owing_in, covered, holding, playing, actor_owes, good_tests, tests_with, in_good_order, in_order}
use Rattle.order.proofs.Sets.{count-is, count-some, count_any}
use Rattle.order.proofs.Largest.{largest-high, largest-met, largest-is}
use Rattle.order.proofs.View.{View}
use Rattle.order.proofs.Good.{Good}

abbrev pub view : GameState → View
view t =
    let d = t.round_data in
    record {
      stack = chips_at t.stacks;
      round = chips_at d.player_bet;
      hand = chips_at t.player_bet;
      pot = chips_in t.total_pot;
      bet = chips_in d.bet;
      least = chips_in d.min_raise;
      seat = actor t;
      owes = has (owing t);
      active = has t.player_active.set;
    }

-- sound, and of whole amounts
pub record Whole (t : GameState) : Type 0 where
  pub sound : sound_of t ≡ true
  pub stacks : all_whole t.stacks t.num_players ≡ true
  pub pot : is_whole t.total_pot ≡ true
  pub hands : all_whole t.player_bet t.num_players ≡ true
  pub rounds : all_whole t.round_data.player_bet t.num_players ≡ true
  pub bet : is_whole t.round_data.bet ≡ true
  pub least : is_whole t.round_data.min_raise ≡ true

abbrev pub Sorted : GameState → Type 0
Sorted t = Whole t × Good t.num_players (chips_of t) (view t)

-- ---- who owes
pub somebody : (t : GameState) → 0 < owing_in t → (j : ℕ) × (j < t.num_players) × (has (owing t) j ≡ true)
somebody t h = count_any t.num_players (has (owing t)) (rw (count-is t.num_players (owing t)) h)

owed : (t : GameState) (j : ℕ) → j < t.num_players → has (owing t) j ≡ true → 0 < owing_in t
owed t j h e = rw (count-is t.num_players (owing t)) at (count-some t.num_players (has (owing t)) j h e)

-- ---- from the tests
pub sorted : (t : GameState) → in_order t ≡ true → Sorted t
unfolding in_order sum_chips
sorted t e =
    let n = t.num_players in
    let d = t.round_data in
    let at = test_at (tests_with t (eqb (owing_in t) 0 || actor_owes t)) e in
    let fit : sound_of t ≡ true = at 0 in
    let rounds : all_whole d.player_bet n ≡ true = at 4 in
    let two = (sound t fit).two in
    let top : chips_in d.bet ≡ _ = eqb-true _ _ (at 10) in
    let last : (eqb (owing_in t) 0 || actor_owes t) ≡ true = at 15 in (
      record { sound = fit; stacks = at 1; pot = at 2; hands = at 3; rounds = rounds; bet = at 5; least = at 6 },
      record {
        chips = refl;
        few = leb-true _ _ (at 7);
        books = eqb-true _ _ (at 8);
        under = λ i h. leb-true _ _ (all-at n (covered d.player_bet t.player_bet) (at 9) i h);
        high = λ i h. rw top (largest-high d.player_bet n rounds (omega arith) i h);
        met = rw top (largest-met d.player_bet n rounds (omega arith));
        small = leb-true _ _ (at 11);
        large = leb-true _ _ (at 12);
        held = λ i h a. leb-true _ _ (if_true _ _ (all-at n (holding t.player_active.set t.stacks) (at 13) i h) a);
        owed = λ i h a. if_true _ _ (all-at n (playing (owing t) t.player_active.set) (at 14) i h) a;
        seated = (sound t fit).acts;
        turn = λ j h a. let f : eqb (owing_in t) 0 ≡ false = ne_eqb (owing_in t) 0 (λ (z : owing_in t ≡ 0). omega (arith, owed t j h a)) in rw f at last;
      },
    )

-- ---- and back
module _ (t : GameState) (w : Whole t) (g : Good t.num_players (chips_of t) (view t)) where
  -- whatever the last test is
  tests_hold : (last : Bool) → last ≡ true → all_of (tests_with t last) ≡ true
  unfolding sum_chips
  tests_hold last e =
      let n = t.num_players in
      let d = t.round_data in
      let two = (sound t w.sound).two in
      let m = g.met in
      λ k.
      w.sound k
      && (w.stacks k
      && (w.pot k
      && (w.hands k
      && (w.rounds k
      && (w.bet k
      && (w.least k
      && (le-leb (chips_of t) most g.few k
      && (eq-eqb _ _ g.books k
      && (all_hold n (covered d.player_bet t.player_bet) (λ i h. le-leb _ _ (g.under i h)) k
      && (eq-eqb _ _ (largest-is d.player_bet n w.rounds (omega arith) (chips_in d.bet) g.high m.0 m.1 m.2) k
      && (le-leb 1 _ g.small k
      && (le-leb _ most g.large k
      && (all_hold n (holding t.player_active.set t.stacks) (λ i h. true_if _ _ (λ a. le-leb 1 _ (g.held i h a))) k
      && (all_hold n (playing (owing t) t.player_active.set) (λ i h. true_if _ _ (g.owed i h)) k
      && e k))))))))))))))

  pub in_order_lem : in_order t ≡ true
  unfolding in_order
  in_order_lem =
      tests_hold _
      (⊎_elim (λ z. rw z) (λ f. let j = somebody t (omega (arith, eqb-false (owing_in t) 0 f)) in rw f (g.turn j.0 j.1 j.2)) (either (eqb (owing_in t) 0)))

  pub in_good_order_lem : 0 < owing_in t → in_good_order t ≡ true
  unfolding in_good_order
  in_good_order_lem h = let j = somebody t h in tests_hold _ (g.turn j.0 j.1 j.2)

-- to the letter it is more
pub as_read : (t : GameState) → in_good_order t ≡ true → in_order t ≡ true
unfolding in_good_order in_order
as_read t e =
    let a : actor_owes t ≡ true = test_at (good_tests t) e 15 in
    rw (a, or-true (eqb (owing_in t) 0)) (rw a at e)
