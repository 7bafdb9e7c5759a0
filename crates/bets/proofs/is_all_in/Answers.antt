-- `bets::is_all_in`: each helper's result in turn. Assumes nothing.
use lib.Ieee.{of_bits}
use Rattle.bets.proofs.is_all_in.Goals as goal

pub returns : goal.returns
unfolding of_bits
returns c = rw (c.tol.ensures, c.max.ensures, c.abs-2.ensures, c.abs.ensures)
