-- `seats::bits::count` meets its contract. The ones of a number are the seats of its set.
-- Assumes nothing.
use borrow.Author.Rules.{rules}
use lib.Count.{ones, ones-le}
use native.Mathlib.Omega.{arith}
use native.Mathlib.Nat.{mod-eq_of_lt}
use mathlib.Core.Path.{sym, ap, ◌∙◌}
use Rattle.seats.proofs.Laws.{ones-count}
use Rattle.seats.proofs.bits.count.Goals as goal

pub overflow_cast-result : goal.overflow_cast-result
overflow_cast-result c = record { fits = omega (arith, ones-le 16 c.args.set (search rules)) }

pub returns : goal.returns
returns c = ap ones (sym (mod-eq_of_lt (search rules))) ∙ ones-count 16 c.args.set
