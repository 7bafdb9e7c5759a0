-- `table::queries::at_seat`: each arm by its tests. Assumes nothing.
use lib.Ieee.{of_bits}
use borrow.Author.Tests.{lt-ltb, le-ltb}
use Rattle.table.specs.Queries.{at_seat}
use Rattle.table.proofs.queries.at_seat.Goals as goal

pub returns-then-i-lt16 : goal.returns-then-i-lt16
unfolding at_seat of_bits
returns-then-i-lt16 c = simp (lt-ltb _ _ c.if-i-len.true, lt-ltb _ _ c.if-i-lt16.true)

pub returns-else-i-lt16 : goal.returns-else-i-lt16
unfolding at_seat of_bits
returns-else-i-lt16 c = simp (lt-ltb _ _ c.if-i-len.true, le-ltb _ _ c.if-i-lt16.false)

pub returns-else-i-len : goal.returns-else-i-len
unfolding at_seat of_bits
returns-else-i-len c = simp (le-ltb _ _ c.if-i-len.false)
