-- `bets::raise_by`: the code's 0.0 is the definition's. Assumes nothing.
use lib.Ieee.{of_bits}
use Rattle.bets.proofs.raise_by.Goals as goal

pub returns : goal.returns
unfolding of_bits
returns c = c.max.ensures
