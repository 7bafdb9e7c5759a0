-- What an accepted settlement promises: the awards are the pot and go to the winners of its layers, and whole chips being exact in binary32,
-- each stack and each winnings grows by its award. And any pair of results that the `ensures` of `settle` allows is equal. Assumes nothing.
use Rattle.std.proofs.Common.{◌≡◌, ℕ, suc, ◌+◌, ◌<◌, ◌≤◌, true, List, length, get_or, sym, ap, ◌∙◌, arith}
use lib.Ieee.{nan}
use Rattle.std.specs.Prelude.{Ok}
use Rattle.commons.proofs.OneResult.{OneResult, same, only}
use Rattle.table.specs.declared.GameState.{GameState}
use Rattle.table.specs.Sound.{sound_of}
use Rattle.table.specs.With.{with_award}
use Rattle.table.proofs.Sound.{sound}
use Rattle.commons.specs.Folds.{sum_to}
use Rattle.chips.specs.Whole.{most, chips_in, sum_chips}
use Rattle.chips.proofs.Lists.{amount-at}
use Rattle.commons.proofs.Folds.{sum-part}
use Rattle.chips.proofs.Value.{Is}
use Rattle.chips.proofs.Whole.{chips_are}
use Rattle.layers.specs.declared.Hand.{Hand}
use Rattle.layers.specs.Settlement.{rank, contends, top, reached, wins, share, award, awards_of, awarded}
use Rattle.layers.proofs.Whole.{gets}
use Rattle.layers.proofs.Promises as layers
use Rattle.settlement.specs.declared.Settled.{Settled}
use Rattle.settlement.specs.Hand.{chips_at, hand_of}
use Rattle.settlement.specs.Settlement.{raised_all, settled_of}
use Rattle.settlement.proofs as crate
use Rattle.settlement.specs.contracts as promised
use Rattle.settlement.proofs.Accepted.{Accepted, accepted}
use Rattle.settlement.proofs.Raised as raising
use Rattle.settlement.proofs.Unpaid as unpaid
use Rattle.settlement.proofs.Whole.{pot-is, long-enough}

-- any pair of results that the `ensures` of `settle` allows is equal
pub settle : OneResult promised.settle.ended crate.settle.Reads.Learnt
settle κs a x y = only same

-- the record after, and what a seat is awarded
abbrev pub after : GameState → List ℕ → GameState
after t ranks = (settled_of t ranks).table

abbrev pub award_of : GameState → List ℕ → ℕ → ℕ
award_of t ranks i = awarded (hand_of t ranks) i

module _ (t : GameState) (ranks : List ℕ) (paid : (settled_of t ranks).answer ≡ Ok tt) where
  abbrev n : ℕ
  n = t.num_players

  abbrev hand : Hand
  hand = hand_of t ranks

  abbrev awards : List ℕ
  awards = awards_of hand

  known : Accepted t ranks
  known = accepted t ranks paid

  -- ---- the awards
  pub awards-add : sum_to n (award_of t ranks) ≡ chips_in t.total_pot
  awards-add = layers.awards-add hand known.payable ∙ pot-is t ranks (sound t known.sounds) known.is_whole

  pub to_contenders : (i : ℕ) → 0 < award_of t ranks i → contends hand i ≡ true
  to_contenders = layers.to_contenders hand

  pub none_after : (i : ℕ) → n ≤ i → award_of t ranks i ≡ 0
  none_after = layers.none_after hand

  -- an award is what the layers give: each to those of the best rank that reached it, in shares that differ by at most one chip
  pub award-is : (i : ℕ) → award_of t ranks i ≡ sum_to (suc (top hand)) (gets hand i)
  unfolding award
  award-is i = layers.awarded-is hand known.payable i

  pub to_best : (u i : ℕ) → 0 < share hand u i → (reached hand u i ≡ true) × ((j : ℕ) → reached hand u j ≡ true → rank hand j ≤ rank hand i)
  to_best = layers.to_best hand known.payable

  pub shares_near : (u i j : ℕ) → wins hand u i ≡ true → wins hand u j ≡ true → share hand u i ≤ share hand u j + 1
  shares_near = layers.shares_near hand known.payable

  -- ---- what moves
  pub stacks_are : (after t ranks).stacks ≡ raised_all n t.stacks awards
  stacks_are = ap (λ (s : Settled). s.table.stacks) known.is

  pub winnings_are : (after t ranks).player_winnings ≡ raised_all n t.player_winnings awards
  winnings_are = ap (λ (s : Settled). s.table.player_winnings) known.is

  pub only-amounts : after t ranks ≡ with_award t (after t ranks).stacks (after t ranks).player_winnings
  only-amounts = ap (λ (s : Settled). s.table) known.is ∙ λ j. with_award t (sym stacks_are j) (sym winnings_are j)

  pub stays-sound : sound_of (after t ranks) ≡ true
  stays-sound = ap (λ (s : Settled). sound_of s.table) known.is ∙ known.sounds

  -- no list is too short: a missing stack is not whole, and a missing winnings not 0
  stacks-long : n ≤ length t.stacks
  stacks-long = long-enough t.stacks n known.is_whole.stacks-whole

  winnings-long : n ≤ length t.player_winnings
  winnings-long = unpaid.long-enough t.player_winnings n known.unpaid

  -- where the award is 0 nothing is written: a stack of -0.0 stays
  pub stack-stays : (i : ℕ) → award_of t ranks i ≡ 0 → get_or (after t ranks).stacks i nan ≡ get_or t.stacks i nan
  stack-stays i z = rw stacks_are (raising.unmoved n t.stacks awards stacks-long i (λ h. z))

  pub winnings_stay : (i : ℕ) → award_of t ranks i ≡ 0 → get_or (after t ranks).player_winnings i nan ≡ get_or t.player_winnings i nan
  winnings_stay i z = rw winnings_are (raising.unmoved n t.player_winnings awards winnings-long i (λ h. z))

  -- ---- the stacks
  pub room : (i : ℕ) → i < n → chips_at t.stacks i + award_of t ranks i ≤ most
  unfolding sum_chips
  room i h = omega (arith, sum-part n (chips_at t.stacks) i h, sum-part n (award_of t ranks) i h, awards-add, known.is_whole.limit)

  stack-whole : (i : ℕ) → i < n → Is (get_or t.stacks i nan) (chips_at t.stacks i)
  stack-whole = amount-at t.stacks n known.is_whole.stacks-whole

  pub stack-grows : (i : ℕ) → i < n → chips_at (after t ranks).stacks i ≡ chips_at t.stacks i + award_of t ranks i
  stack-grows i h = rw stacks_are (raising.grows n t.stacks awards stacks-long stack-whole room i h)

  pub stack_is : (i : ℕ) → i < n → Is (get_or (after t ranks).stacks i nan) (chips_at t.stacks i + award_of t ranks i)
  stack_is i h = rw stacks_are (raising.raised_to n t.stacks awards stacks-long stack-whole room i h)

  -- ---- the winnings, which were 0
  pub none-won : (i : ℕ) → i < n → chips_at t.player_winnings i ≡ 0
  none-won i h = chips_are _ 0 (unpaid.zero-at t.player_winnings n known.unpaid i h) (omega arith)

  winnings-whole : (i : ℕ) → i < n → Is (get_or t.player_winnings i nan) (chips_at t.player_winnings i)
  winnings-whole i h = rw (none-won i h) (unpaid.zero-at t.player_winnings n known.unpaid i h)

  winnings-room : (i : ℕ) → i < n → chips_at t.player_winnings i + award_of t ranks i ≤ most
  winnings-room i h = omega (arith, none-won i h, room i h)

  pub winnings-grow : (i : ℕ) → i < n → chips_at (after t ranks).player_winnings i ≡ chips_at t.player_winnings i + award_of t ranks i
  winnings-grow i h = rw winnings_are (raising.grows n t.player_winnings awards winnings-long winnings-whole winnings-room i h)

  pub winnings-is : (i : ℕ) → i < n → Is (get_or (after t ranks).player_winnings i nan) (chips_at t.player_winnings i + award_of t ranks i)
  winnings-is i h = rw winnings_are (raising.raised_to n t.player_winnings awards winnings-long winnings-whole winnings-room i h)

  -- ---- stacks and pot grow by what is won, here with the old winnings on the other side
  pub chips_stay :
      sum_chips (after t ranks).stacks n + chips_in (after t ranks).total_pot + sum_chips t.player_winnings n
      ≡ sum_chips t.stacks n + chips_in t.total_pot + sum_chips (after t ranks).player_winnings n
  chips_stay =
      let pot : (after t ranks).total_pot ≡ t.total_pot = ap (λ (s : Settled). s.table.total_pot) known.is in
      rw (stacks_are, winnings_are, pot)
      (omega (arith, raising.sum-grows n t.stacks awards stacks-long stack-whole room, raising.sum-grows n t.player_winnings awards winnings-long winnings-whole winnings-room))
