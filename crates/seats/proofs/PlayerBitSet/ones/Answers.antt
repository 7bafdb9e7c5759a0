-- `seats::PlayerBitSet::ones`: each arm by its test of the place found. Assumes nothing.
use borrow.Author.Tests.{lt-ltb, le-ltb}
use mathlib.Core.Path.{sym}
use Rattle.seats.specs.Set.{ones_of}
use Rattle.seats.proofs.PlayerBitSet.ones.Goals as goal

pub returns-then-i-lt16 : goal.returns-then-i-lt16
unfolding ones_of
returns-then-i-lt16 c = simp (sym c.next-i.ensures, lt-ltb _ _ c.if-i-lt16.true)

pub returns-else-i-lt16 : goal.returns-else-i-lt16
unfolding ones_of
returns-else-i-lt16 c = simp (sym c.next-i.ensures, le-ltb _ _ c.if-i-lt16.false)
