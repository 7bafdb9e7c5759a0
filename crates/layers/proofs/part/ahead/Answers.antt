-- `layers::part::ahead`: its test is the definition's. Assumes nothing.
use native.Mathlib.Omega.{arith}
use borrow.Author.Tests.{le-leb, lt-leb}
use Rattle.layers.proofs.part.ahead.Goals as goal

pub overflow_sub-result : goal.overflow_sub-result
overflow_sub-result c = omega (arith, c.requires.f_le_k c.if-first-i.true)

pub returns-then-first-i : goal.returns-then-first-i
returns-then-first-i c = rw (le-leb _ _ c.if-first-i.true)

pub returns : goal.returns
returns c = rw (lt-leb _ _ c.if-first-i.false)
