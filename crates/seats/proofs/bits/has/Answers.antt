-- `seats::bits::has` meets its contract. No seat from 16 on is in a set of 16 bits.
-- Assumes nothing.
use mathlib.Core.Path.{sym}
use borrow.Author.Rules.{rules}
use Rattle.seats.proofs.Laws.{none_above}
use Rattle.seats.specs.Bits.{has}
use Rattle.seats.proofs.bits.has.Goals as goal

pub returns-then-i-ge16 : goal.returns-then-i-ge16
returns-then-i-ge16 c = sym (none_above _ 16 _ (search rules) c.if-i-ge16.true)

pub returns : goal.returns
unfolding has
returns c = search rules
