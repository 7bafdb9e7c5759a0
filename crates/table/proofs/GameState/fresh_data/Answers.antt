-- `table::GameState::fresh_data`: the cleared list is what cleared ensures. Assumes nothing.
use lib.Ieee.{of_bits}
use Rattle.table.proofs.GameState.fresh_data.Goals as goal

pub returns : goal.returns
unfolding of_bits
returns c = rw c.cleared-bets.ensures
