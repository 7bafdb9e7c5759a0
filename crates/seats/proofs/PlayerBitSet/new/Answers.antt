-- `seats::PlayerBitSet::new`: each arm by its test. Assumes nothing.
use borrow.Author.Tests.{le-leb, lt-leb}
use Rattle.seats.specs.Set.{new_of}
use Rattle.seats.proofs.PlayerBitSet.new.Goals as goal

pub returns-then-players-le16 : goal.returns-then-players-le16
unfolding new_of
returns-then-players-le16 c = simp (le-leb _ _ c.if-players-le16.true, c.up_to.ensures)

pub returns-else-players-le16 : goal.returns-else-players-le16
unfolding new_of
returns-else-players-le16 c = simp (lt-leb _ _ c.if-players-le16.false, c.into.ensures)
