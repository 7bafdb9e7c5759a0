-- `table::GameState::completed`: each callee's result in turn. Assumes nothing.
use Rattle.table.proofs.GameState.completed.Goals as goal

pub returns : goal.returns
returns c = rw (c.with_round.ensures, c.fresh_data-data.ensures)
