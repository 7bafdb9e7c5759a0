-- `bets::slack`: each helper's result in turn. Assumes nothing.
use lib.Ieee.{of_bits}
use Rattle.bets.proofs.slack.Goals as goal

pub returns : goal.returns
unfolding of_bits
returns c = rw (c.tol.ensures, c.max-2.ensures, c.max.ensures, c.abs-2.ensures, c.abs.ensures)
