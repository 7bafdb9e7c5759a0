-- `parts::running::run_from`: after k turns the first k bets are made. Assumes nothing.
use Rattle.parts.proofs.LawsRun.{Ran}
use Rattle.parts.proofs.running.run_from.Given as goal

abbrev pub invariant-loop-amount : goal.invariant-loop-amount
invariant-loop-amount l = Ran l.amounts l.initial.s.table l.amount-index l.s.table l.paid l.taken
