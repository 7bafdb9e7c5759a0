-- What the test of 23 says, part by part. With soundness it makes the hand of the record payable wherever somebody contends. Assumes nothing.
use Rattle.std.proofs.Common.{◌≡◌, ℕ, ◌+◌, ◌*◌, ◌<◌, ◌≤◌, min, true, List, length, sym, ◌∙◌, ⊎_elim, mod-lt, arith, lt-ltb, eqb-true, leb-true}
use lib.Ieee.{Float}
use Rattle.commons.proofs.Tests.{test_at}
use Rattle.commons.proofs.Bools.{differ}
use Rattle.commons.proofs.Order.{lt_or_le}
use Rattle.commons.proofs.Filled.{filled_at}
use Rattle.rounds.specs.Walk.{seat_on}
use Rattle.table.specs.declared.GameState.{GameState}
use Rattle.table.proofs.Sound.{Sound}
use Rattle.chips.specs.Whole.{most, is_whole, chips_in, all_whole, sum_chips}
use Rattle.commons.proofs.Folds.{sum_same}
use Rattle.chips.proofs.Lists as chips
use Rattle.layers.specs.Settlement.{bet, pot_of, is_payable, nothing}
use Rattle.layers.proofs.Payable.{payable-is}
use Rattle.settlement.specs.Hand.{chips_at, counted_of, after_dealer, first_of, hand_of}
use Rattle.settlement.specs.Settlement.{chip_tests, in_chips, is_whole_table, someone}

-- ---- lists of amounts
-- no more than 16 places are added
pub sum_fits : (l : List Float) (n : ℕ) → length l ≤ 16 → sum_chips l n ≤ 16 * most
sum_fits l n h = rw (← chips.no_more l n) (omega (arith, chips.sum-le l (min n (length l))))

pub long-enough : (l : List Float) (n : ℕ) → all_whole l n ≡ true → n ≤ length l
long-enough l n w = ⊎_elim (λ s. absurd (differ (all_whole l n) w (chips.too_long l n s))) (λ g. g) (lt_or_le (length l) n)

-- ---- a record's chips
pub record Whole (t : GameState) : Type 0 where
  pub stacks-whole : all_whole t.stacks t.num_players ≡ true
  pub bets-whole : all_whole t.player_bet t.num_players ≡ true
  pub starting-whole : all_whole t.starting_stacks t.num_players ≡ true
  pub pot-whole : is_whole t.total_pot ≡ true
  pub limit : sum_chips t.stacks t.num_players + chips_in t.total_pot ≤ most
  pub equal : chips_in t.total_pot ≡ sum_chips t.player_bet t.num_players

module _ (t : GameState) where
  pub whole : is_whole_table t ≡ true → Whole t
  unfolding in_chips
  whole w =
      let at = test_at (chip_tests t.num_players t.stacks t.player_bet t.starting_stacks t.total_pot) w in
      record {
        stacks-whole = at 0;
        bets-whole = at 1;
        starting-whole = at 2;
        pot-whole = at 3;
        limit = leb-true _ _ (at 4);
        equal = eqb-true _ _ (at 5);
      }

  -- ---- its hand
  pub first-is : Sound t → first_of t ≡ seat_on t.num_players t.dealer_idx 1
  unfolding after_dealer
  first-is s = rw (lt-ltb _ _ s.deals)

  pub first_in : Sound t → first_of t < t.num_players
  first_in s = rw (first-is s) (mod-lt _ (omega (arith, s.two)))

  module _ (ranks : List ℕ) where
    pub bet-is : (i : ℕ) → i < 16 → bet (hand_of t ranks) i ≡ chips_at t.player_bet i
    unfolding counted_of
    bet-is i l = filled_at nothing (chips_at t.player_bet) 16 i 0 l (omega arith)

    pub pot-is : Sound t → Whole t → pot_of (hand_of t ranks) ≡ chips_in t.total_pot
    unfolding pot_of sum_chips
    pot-is s w =
        sum_same t.num_players (bet (hand_of t ranks)) (chips_at t.player_bet) (λ i l. bet-is i (omega (arith, s.most)))
        ∙ sym w.equal

    pub payable_where : Sound t → Whole t → is_payable (hand_of t ranks) ≡ someone t ranks
    payable_where s w = payable-is (hand_of t ranks) s.most (first_in s) (omega (arith, pot-is s w, w.limit))
