-- `seats::bits::without` meets its contract. The shifted one is 2 ^ i.
-- Assumes nothing.
use borrow.Author.Tests.{lt-ltb, le-ltb}
use Rattle.seats.proofs.Laws.{shifted}
use Rattle.seats.specs.Bits.{without}
use Rattle.seats.proofs.bits.without.Goals as goal

pub returns-then-i-lt16 : goal.returns-then-i-lt16
unfolding without
returns-then-i-lt16 c = simp (lt-ltb _ _ c.if-i-lt16.true, shifted _ 16 c.if-i-lt16.true)

pub returns : goal.returns
unfolding without
returns c = simp (le-ltb _ _ c.if-i-lt16.false)
