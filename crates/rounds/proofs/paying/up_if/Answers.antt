-- `rounds::paying::up_if`: each arm by its test. Assumes nothing.
use lib.Dec.{ltb}
use borrow.Author.Tests.{ltb-true}
use Rattle.commons.proofs.Bools.{and_both}
use native.Mathlib.Omega.{arith}
use Rattle.rounds.proofs.paying.up_if.Goals as goal

pub overflow_add-result : goal.overflow_add-result
overflow_add-result c = let start = c.args in omega (arith, ltb-true start.count 255 (and_both start.raised (ltb start.count 255) c.if-raised-count.true).1)

pub returns-then-raised-count : goal.returns-then-raised-count
returns-then-raised-count c = simp c.if-raised-count.true

pub returns : goal.returns
returns c = simp c.if-raised-count.false
