-- `seats::PlayerBitSet::disable`: each arm by its test. Assumes nothing.
use borrow.Author.Tests.{lt-ltb, le-ltb}
use Rattle.seats.specs.Set.{disable_of}
use Rattle.seats.proofs.PlayerBitSet.disable.Goals as goal

pub returns-then-idx-lt16 : goal.returns-then-idx-lt16
unfolding disable_of
returns-then-idx-lt16 c = simp (lt-ltb _ _ c.if-idx-lt16.true, c.without.ensures)

pub returns-else-idx-lt16 : goal.returns-else-idx-lt16
unfolding disable_of
returns-else-idx-lt16 c = simp (le-ltb _ _ c.if-idx-lt16.false, c.into.ensures)
