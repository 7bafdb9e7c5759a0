-- `console::act::ranked`: by whether a table stands, and by the count. Assumes nothing.
use Rattle.std.proofs.Common.{◌∙◌}
use Rattle.console.proofs.LawsAct.{ranks, miscounted, no_ranks}
use Rattle.console.proofs.act.ranked.Goals as goal
use Rattle.console.proofs.act.ranked.Goals.{in_default-via-in-Some+else-count-t, in_default-via-in_default}

pub returns-in-Some : goal.returns-in-Some
returns-in-Some c =
    ranks c.args.s c.args.count _ c.in-Some.is c.if-count-t.true c.ranks_of.ensures c.settle-settled.ensures c.given.ensures

pub returns-in_default : goal.returns-in_default
returns-in_default c =
    c.bad_line.ensures ∙ elim c.in_default.branch [
      | in_default-via-in-Some+else-count-t w ↦ miscounted c.args.s c.args.count c.args.numbers w.in-Some.is w.if-count-t.false
      | in_default-via-in_default w ↦ no_ranks c.args.s c.args.count c.args.numbers w.in_default.is
    ]
