-- `rounds::paying::owing_after`: each callee's result in turn. Assumes nothing.
use Rattle.rounds.specs.Paying.{owing_after}
use Rattle.rounds.proofs.paying.owing_after.Goals as goal

pub returns : goal.returns
unfolding owing_after
returns c = rw (c.without_if-2.ensures, c.without_if.ensures, c.either-owe.ensures)
