-- `settlement::paying::rewards`: each turn fills one place more with a difference of at most 8,000 chips. Assumes nothing.
use Rattle.std.proofs.Common.{◌≡◌, length, pos, ◌-ℤ◌}
use Rattle.commons.specs.Filled.{filled}
use Rattle.settlement.specs.Hand.{chips_at}
use Rattle.settlement.specs.Settlement.{no_rewards}
use Rattle.settlement.proofs.paying.rewards.Given as goal

abbrev pub invariant-loop-i : goal.invariant-loop-i
invariant-loop-i l = l.out ≡ filled (length l.yielded) no_rewards (λ k. pos (chips_at l.fn.stacks k) -ℤ pos (chips_at l.fn.starting k))
