-- `bets::validate_forced_bet_amount`: it has no row that could hold. Assumes nothing.
use Rattle.bets.specs.Bet.{size_for}
use Rattle.bets.proofs.validate_forced_bet_amount.Goals as goal

pub returns : goal.returns
unfolding size_for
returns c = rw c.min.ensures
