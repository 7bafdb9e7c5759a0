-- `seats::bits::up_to`: the shifted one is 2 ^ n. Assumes nothing.
use borrow.Author.Tests.{lt-ltb, le-ltb}
use lib.Pow.{pow_pos}
use Rattle.seats.specs.Bits.{up_to}
use Rattle.seats.proofs.Laws.{shifted}
use Rattle.seats.proofs.bits.up_to.Goals as goal

pub returns-then-n-ge16 : goal.returns-then-n-ge16
unfolding up_to
returns-then-n-ge16 c = simp (le-ltb _ _ c.if-n-ge16.true)

pub overflow_sub-result : goal.overflow_sub-result
overflow_sub-result c = rw (shifted c.args.n 16 c.if-n-ge16.false) (pow_pos _)

pub returns : goal.returns
unfolding up_to
returns c = simp (lt-ltb _ _ c.if-n-ge16.false, shifted c.args.n 16 c.if-n-ge16.false)
