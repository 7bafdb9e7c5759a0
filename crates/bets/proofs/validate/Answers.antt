-- `bets::validate`: forced or not, as the callee ensures. Assumes nothing.
use Rattle.bets.specs.Bet.{bet_size, size_for}
use Rattle.bets.proofs.validate.Goals as goal

pub returns-then-is_forced : goal.returns-then-is_forced
returns-then-is_forced c = rw c.if-is_forced.true c.validate_forced_bet_amount.ensures

pub returns-else-is_forced : goal.returns-else-is_forced
unfolding bet_size size_for
returns-else-is_forced c = simp (c.if-is_forced.false, c.validate_bet_amount.ensures)
