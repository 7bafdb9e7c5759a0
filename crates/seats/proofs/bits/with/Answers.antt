-- `seats::bits::with` meets its contract. The shifted one is 2 ^ i.
-- Assumes nothing.
use borrow.Author.Tests.{lt-ltb, le-ltb}
use Rattle.seats.proofs.Laws.{shifted}
use Rattle.seats.specs.Bits.{with}
use Rattle.seats.proofs.bits.with.Goals as goal

pub returns-then-i-lt16 : goal.returns-then-i-lt16
unfolding with
returns-then-i-lt16 c = simp (lt-ltb _ _ c.if-i-lt16.true, shifted _ 16 c.if-i-lt16.true)

pub returns : goal.returns
unfolding with
returns c = simp (le-ltb _ _ c.if-i-lt16.false)
