-- `peatcloak::journal_calls::follows`: by what follows. Assumes nothing.
use Rattle.peatcloak.specs.Writing.{follows}
use Rattle.peatcloak.proofs.journal_calls.follows.Goals as goal

pub returns-in-More : goal.returns-in-More
unfolding follows
returns-in-More c = rw c.in-More.is

pub returns-in-Last : goal.returns-in-Last
unfolding follows
returns-in-Last c = rw c.in-Last.is
