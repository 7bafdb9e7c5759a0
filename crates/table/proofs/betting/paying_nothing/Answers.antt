-- `table::betting::paying_nothing`: each case is its answer. Assumes nothing.
use mathlib.Core.Path.{sym, ap, ◌∙◌}
use lib.Ieee.{of_bits}
use Rattle.std.specs.Prelude.{Err}
use Rattle.std.proofs.lemmas.Result.{err_from_is_err_and}
use Rattle.table.specs.Choice.{paying_nothing}
use Rattle.table.proofs.betting.paying_nothing.Goals as goal

pub returns-in_err-passed : goal.returns-in_err-passed
unfolding of_bits
returns-in_err-passed c = let p = err_from_is_err_and c.from_residual.result c.from_residual.ensures.1 in
    p.1 ∙ ap Err p.2 ∙ ap paying_nothing (sym c.in_err-passed.was)

pub returns : goal.returns
unfolding of_bits
returns c = ap paying_nothing (sym c.in_ok-passed.was)
