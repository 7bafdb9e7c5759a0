-- `layout::standing::stands`: nothing is read of lists that are too short. Assumes nothing.
use borrow.Author.Tests.{le-leb, lt-leb}
use borrow.Author.Tests.{le-leb, lt-leb}
use Rattle.layout.proofs.standing.stands.Goals as goal

pub returns-then-numbers-ge-NUMBERS : goal.returns-then-numbers-ge-NUMBERS
returns-then-numbers-ge-NUMBERS c =
    simp (le-leb _ _ c.if-floats-ge-FLOATS.true, le-leb _ _ c.if-numbers-ge-NUMBERS.true, c.words_fit.ensures)

pub returns-else-numbers-ge-NUMBERS : goal.returns-else-numbers-ge-NUMBERS
returns-else-numbers-ge-NUMBERS c = simp (le-leb _ _ c.if-floats-ge-FLOATS.true, lt-leb _ _ c.if-numbers-ge-NUMBERS.false)

pub returns-else-floats-ge-FLOATS : goal.returns-else-floats-ge-FLOATS
returns-else-floats-ge-FLOATS c = simp (lt-leb _ _ c.if-floats-ge-FLOATS.false)
