-- `table::GameState::advance_normal`: each callee's result in turn. Assumes nothing.
use mathlib.Core.Path.{◌∙◌}
use Rattle.table.proofs.Alike.{is-preflop}
use Rattle.table.proofs.GameState.advance_normal.Goals as goal

pub returns : goal.returns
returns c =
    simp (c.with_round.ensures, c.fresh_data-data.ensures, c.first_turn-w.ensures, c.eq.ensures ∙ is-preflop c.advance-now.result, c.advance-now.ensures)
