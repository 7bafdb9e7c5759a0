-- `table::advancing::first_turn`: each arm by its test, a walk being what walk ensures; each passes to at most 16. Assumes nothing.
use native.Mathlib.Omega.{arith}
use Rattle.rounds.proofs.Walk.{walked-few}
use Rattle.table.specs.Rounds.{first_turn}
use borrow.Author.Rules.{rules}
use Rattle.table.proofs.advancing.first_turn.Goals as goal

pub walk-w-requires : goal.walk-w-requires
walk-w-requires c = search rules

pub walk-v-requires : goal.walk-v-requires
walk-v-requires c = search rules

pub overflow_add-result : goal.overflow_add-result
overflow_add-result c =
    omega (arith, walked-few c.walk-w.result _ _ _ c.walk-w.ensures, walked-few c.walk-v.result _ _ _ c.walk-v.ensures)

pub returns-then-twice : goal.returns-then-twice
unfolding first_turn
returns-then-twice c =
    simp (c.if-twice.true, c.walk-v.ensures, c.walk-w.ensures)

pub returns : goal.returns
unfolding first_turn
returns c = simp (c.if-twice.false, c.walk-w.ensures)
