-- `settlement::paid_out`: stacks, winnings and rewards are what its callees ensure. Assumes nothing.
use Rattle.settlement.proofs.paid_out.Goals as goal

pub returns : goal.returns
returns c =
    rw (c.rewards-rewards.ensures, c.with_awards-more.ensures, c.with_awards-won.ensures)
