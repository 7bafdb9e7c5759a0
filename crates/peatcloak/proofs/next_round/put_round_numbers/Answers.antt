-- `peatcloak::next_round::put_round_numbers`: store by store. Assumes nothing.
use Prim.Native.Nat.{◌+◌}
use native.Mathlib.Omega.{arith}
use lib.ListN.{set, length-set}
use Rattle.layout.specs.Places.{ROUND, ROUND_BEFORE, STARTING_PLAYER_ACTIVE, NEEDS_ACTION, TO_ACT_IDX, ROUND_LENGTH, TOTAL_BET_COUNT, TOTAL_RAISE_COUNT, FORCED_BET_COUNT, PASSED}
use Rattle.peatcloak.proofs.next_round.put_round_numbers.Goals as goal

pub bounds-numbers-3 : goal.bounds-numbers-3
bounds-numbers-3 c = simp length-set (omega arith)

pub bounds-numbers-6 : goal.bounds-numbers-6
bounds-numbers-6 c = simp length-set (omega arith)

pub bounds-numbers-7 : goal.bounds-numbers-7
bounds-numbers-7 c = simp length-set (omega arith)

pub bounds-numbers-8 : goal.bounds-numbers-8
bounds-numbers-8 c = simp length-set (omega arith)

pub bounds-numbers-9 : goal.bounds-numbers-9
bounds-numbers-9 c = simp length-set (omega arith)

pub bounds-numbers-10 : goal.bounds-numbers-10
bounds-numbers-10 c = simp length-set (omega arith)

pub bounds-numbers-11 : goal.bounds-numbers-11
bounds-numbers-11 c = simp length-set (omega arith)

pub bounds-numbers-12 : goal.bounds-numbers-12
bounds-numbers-12 c = simp length-set (omega arith)

pub bounds-numbers-23 : goal.bounds-numbers-23
bounds-numbers-23 c = simp length-set (omega arith)

pub returns : goal.returns
returns c =
    let a = c.args in
    λ i.
    set (set (set (set (set (set (set (set (set (set a.numbers.now ROUND (a.round + 1)) ROUND_BEFORE a.round) STARTING_PLAYER_ACTIVE (c.word_of_set.ensures.value i)) NEEDS_ACTION (c.word_of_set-2.ensures.value i))
    TO_ACT_IDX (c.word_of.ensures i)) ROUND_LENGTH (c.word_of-2.ensures i)) TOTAL_BET_COUNT 0) TOTAL_RAISE_COUNT 0) FORCED_BET_COUNT 0) PASSED (c.word_of-3.ensures i)
