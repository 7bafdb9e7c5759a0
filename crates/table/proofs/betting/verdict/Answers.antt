-- `table::betting::verdict`: what the size comes to, and then the counters' row. Assumes nothing.
use mathlib.Core.Path.{◌∙◌}
use Rattle.table.proofs.Bet.{verdict-room}
use Rattle.table.proofs.betting.verdict.Goals as goal

pub returns : goal.returns
returns c =
    let a = c.args in
    c.room_for.ensures ∙ verdict-room a.p a.amount a.is_forced _ c.validate.ensures
