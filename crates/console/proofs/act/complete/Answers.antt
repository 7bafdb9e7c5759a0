-- `console::act::complete`: the step of the table that stands. Assumes nothing.
use Rattle.std.proofs.Common.{sym, ap, ◌∙◌}
use Rattle.console.specs.Act.{stepped}
use Rattle.console.proofs.LawsAct.{needs_one, has_one}
use Rattle.console.proofs.act.complete.Goals as goal

pub returns-in-Some : goal.returns-in-Some
returns-in-Some c = c.stepped.ensures ∙ ap (stepped _) c.complete.ensures ∙ sym (has_one c.args.s _ _ c.in-Some.is)

pub returns-in-None : goal.returns-in-None
returns-in-None c = c.bad_line.ensures ∙ sym (needs_one c.args.s _ c.in-None.is)
