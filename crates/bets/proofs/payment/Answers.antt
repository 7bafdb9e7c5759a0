-- `bets::payment`: the smaller is what min ensures. Assumes nothing.
use Rattle.bets.proofs.payment.Goals as goal

pub returns : goal.returns
returns c = c.min.ensures
