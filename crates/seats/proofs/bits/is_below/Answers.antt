-- `seats::bits::is_below`: a set of 16 bits holds no seat from 16 on; below that the shifted one is 2 ^ n. Assumes nothing.
use borrow.Author.Tests.{lt-ltb}
use lib.Pow.{pow_mono}
use native.Mathlib.Nat.{lt_of_lt_of_le}
use mathlib.Core.Path.{sym}
use Rattle.seats.proofs.Laws.{shifted}
use Rattle.seats.proofs.bits.is_below.Goals as goal

pub returns-then-n-ge16 : goal.returns-then-n-ge16
returns-then-n-ge16 c = sym (lt-ltb _ _ (lt_of_lt_of_le c.ranges.set.fits (pow_mono c.if-n-ge16.true)))

pub returns : goal.returns
returns c = rw (shifted c.args.n 16 c.if-n-ge16.false)
