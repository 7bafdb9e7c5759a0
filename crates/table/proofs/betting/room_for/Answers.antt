-- `table::betting::room_for`: by the size, and then by the counters. Assumes nothing.
use mathlib.Core.Path.{sym, ap, ◌∙◌}
use Rattle.std.specs.Prelude.{Err}
use Rattle.std.proofs.lemmas.Result.{err_from_is_err_and}
use Rattle.table.proofs.Bet.{room-refused, room-full, room-left}
use Rattle.table.proofs.betting.room_for.Goals as goal

pub returns-in_err-x : goal.returns-in_err-x
returns-in_err-x c =
    let a = c.args in
    let p = err_from_is_err_and c.from_residual.result c.from_residual.ensures.1 in
    p.1 ∙ room-refused a.stake a.is_forced a.size p.0 (c.in_err-x.was ∙ ap Err (sym p.2))

pub returns-then-is_full : goal.returns-then-is_full
returns-then-is_full c =
    let a = c.args in
    room-full a.stake a.is_forced a.size _ c.in_ok-x.was _ c.is_full.ensures c.if-is_full.true

pub returns : goal.returns
returns c =
    let a = c.args in
    room-left a.stake a.is_forced a.size _ c.in_ok-x.was _ c.is_full.ensures c.if-is_full.false
