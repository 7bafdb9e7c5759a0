-- `seats::bits::next`: each end is a law of the lowest digit. Assumes nothing.
use Prim.Native.Nat.{◌/◌, ◌^◌}
use native.Mathlib.Omega.{arith}
use mathlib.Core.Path.{refl, sym}
use borrow.Author.Rules.{rules}
use lib.Count.{trailing_le}
use Rattle.seats.proofs.LawsLowest.{next-is, next-none, next_outside}
use Rattle.seats.proofs.bits.next.Goals as goal

pub returns-then-from-ge16 : goal.returns-then-from-ge16
returns-then-from-ge16 c = sym (next_outside _ _ (search rules) c.if-from-ge16.true)

pub overflow_cast-to : goal.overflow_cast-to
overflow_cast-to c = record { fits = omega (arith, trailing_le 16 (c.args.set / 2 ^ c.args.from)) }

pub overflow_add-to : goal.overflow_add-to
overflow_add-to c = omega (arith, trailing_le 16 (c.args.set / 2 ^ c.args.from))

pub returns-then-to-lt16 : goal.returns-then-to-lt16
returns-then-to-lt16 c = sym (next-is _ _ _ refl c.if-to-lt16.true)

pub returns-else-to-lt16 : goal.returns-else-to-lt16
returns-else-to-lt16 c = sym (next-none _ _ _ refl (search rules) c.if-to-lt16.false)
