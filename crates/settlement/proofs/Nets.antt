-- The rewards of an accepted settlement: each is the stack after less the starting stack, which the exact stacks make a difference of whole chips,
-- from -8,000 to 8,000; from n on stand zeros. Assumes nothing.
use Rattle.std.proofs.Common.{◌≡◌, ℕ, ◌+◌, ◌<◌, ◌≤◌, List, get_or, ℤ, pos, ◌-ℤ◌, ap, ◌∙◌, ⊎_elim, w32, SFits}
use lib.Signed.{mag}
use lib.ListN.{get_or-replicate, get_or-eq_default}
use Rattle.std.specs.Prelude.{Ok}
use Rattle.commons.proofs.Order.{lt_or_le}
use Rattle.commons.proofs.Filled.{filled_at, filled-out}
use Rattle.table.specs.declared.GameState.{GameState}
use Rattle.table.proofs.Sound.{sound}
use Rattle.chips.specs.Whole.{most}
use Rattle.chips.proofs.Whole.{chips-le}
use Rattle.settlement.specs.declared.Settled.{Settled}
use Rattle.settlement.specs.Hand.{chips_at}
use Rattle.settlement.specs.Settlement.{no_rewards, rewards_of, settled_of}
use Rattle.settlement.proofs.Accepted.{accepted}
use Rattle.settlement.proofs.Promises.{after, award_of, stacks_are, stack-grows}
use Rattle.settlement.proofs.Signed.{less-mag, less-fits}

abbrev pub reward_of : GameState → List ℕ → ℕ → ℤ
reward_of t ranks i = get_or (settled_of t ranks).rewards i (pos 0)

module _ (t : GameState) (ranks : List ℕ) (paid : (settled_of t ranks).answer ≡ Ok tt) where
  abbrev n : ℕ
  n = t.num_players

  rewards_are : (settled_of t ranks).rewards ≡ rewards_of n (after t ranks).stacks t.starting_stacks
  rewards_are = ap (λ (s : Settled). s.rewards) (accepted t ranks paid).is ∙ rw (stacks_are t ranks paid)

  -- "stack less starting stack", with the award in the stack
  pub reward_is : (i : ℕ) → i < n → reward_of t ranks i ≡ pos (chips_at (after t ranks).stacks i) -ℤ pos (chips_at t.starting_stacks i)
  unfolding rewards_of
  reward_is i h =
      rw rewards_are
      (filled_at no_rewards (λ i. pos (chips_at (after t ranks).stacks i) -ℤ pos (chips_at t.starting_stacks i)) n i (pos 0) h (sound t (accepted t ranks paid).sounds).most)

  pub reward_exact : (i : ℕ) → i < n → reward_of t ranks i ≡ pos (chips_at t.stacks i + award_of t ranks i) -ℤ pos (chips_at t.starting_stacks i)
  reward_exact i h = reward_is i h ∙ λ j. pos (stack-grows t ranks paid i h j) -ℤ pos (chips_at t.starting_stacks i)

  pub reward_between : (i : ℕ) → i < n → mag (reward_of t ranks i) ≤ most
  reward_between i h = rw (reward_is i h) (less-mag _ _ most (chips-le _) (chips-le _))

  pub reward_fits : (i : ℕ) → i < n → SFits w32 (reward_of t ranks i)
  reward_fits i h = rw (reward_is i h) (less-fits (chips-le _) (chips-le _))

  pub no_reward : (i : ℕ) → n ≤ i → reward_of t ranks i ≡ pos 0
  unfolding rewards_of
  no_reward i g =
      rw rewards_are
      (filled-out no_rewards (λ i. pos (chips_at (after t ranks).stacks i) -ℤ pos (chips_at t.starting_stacks i)) n i (pos 0) g
      ∙ ⊎_elim (λ l. get_or-replicate {A = ℤ} 16 i (pos 0) (pos 0) l) (λ m. get_or-eq_default no_rewards (pos 0) m) (lt_or_le i 16))
