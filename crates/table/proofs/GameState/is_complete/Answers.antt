-- `table::GameState::is_complete`: each test is what its callee ensures. Assumes nothing.
use mathlib.Core.Path.{◌∙◌}
use Rattle.table.proofs.Alike.{is-complete}
use Rattle.table.proofs.GameState.is_complete.Goals as goal

pub returns : goal.returns
returns c = rw (c.eq.ensures ∙ is-complete c.args.self.round, c.count.ensures)
