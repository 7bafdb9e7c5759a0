-- `peatcloak::bet::put_numbers`: store by store. Assumes nothing.
use lib.ListN.{set, length-set}
use mathlib.Core.Path.{◌≡◌}
use native.Mathlib.Omega.{arith}
use Prim.Native.Nat.{ℕ, ◌<◌}
use Rattle.layout.specs.Places.{PLAYER_ACTIVE, PLAYER_ALL_IN, NEEDS_ACTION, TO_ACT_IDX, TOTAL_BET_COUNT, TOTAL_RAISE_COUNT, FORCED_BET_COUNT, PASSED}
use Rattle.peatcloak.specs.Put.{numbers_with}
-- a word that is a number, and is below k
use Rattle.peatcloak.proofs.bet.put_numbers.Goals as goal

low : {r n k : ℕ} → r ≡ n → r < k → n < k
low e h = omega (arith, e, h)

pub bounds-numbers-5 : goal.bounds-numbers-5
bounds-numbers-5 c = simp length-set (omega arith)

pub bounds-numbers-7 : goal.bounds-numbers-7
bounds-numbers-7 c = simp length-set (omega arith)

pub bounds-numbers-8 : goal.bounds-numbers-8
bounds-numbers-8 c = simp length-set (omega arith)

pub bounds-numbers-10 : goal.bounds-numbers-10
bounds-numbers-10 c = simp length-set (omega arith)

pub bounds-numbers-11 : goal.bounds-numbers-11
bounds-numbers-11 c = simp length-set (omega arith)

pub bounds-numbers-12 : goal.bounds-numbers-12
bounds-numbers-12 c = simp length-set (omega arith)

pub bounds-numbers-23 : goal.bounds-numbers-23
bounds-numbers-23 c = simp length-set (omega arith)

pub returns : goal.returns
unfolding numbers_with
returns c = record {
  numbers_after = λ i.
      set (set (set (set (set (set (set (set c.args.numbers.now PLAYER_ACTIVE (c.word_of_set.ensures.value i)) PLAYER_ALL_IN (c.word_of_set-2.ensures.value i)) NEEDS_ACTION (c.word_of_set-3.ensures.value i)) TO_ACT_IDX (c.word_of.ensures i))
      TOTAL_BET_COUNT (c.word_of_byte.ensures.value i)) TOTAL_RAISE_COUNT (c.word_of_byte-2.ensures.value i)) FORCED_BET_COUNT (c.word_of_byte-3.ensures.value i)) PASSED (c.word_of-2.ensures i);
  fits = record {
    active = low c.word_of_set.ensures.value c.word_of_set.ensures.low;
    all_in = low c.word_of_set-2.ensures.value c.word_of_set-2.ensures.low;
    owing = low c.word_of_set-3.ensures.value c.word_of_set-3.ensures.low;
    total = low c.word_of_byte.ensures.value c.word_of_byte.ensures.low;
    raises = low c.word_of_byte-2.ensures.value c.word_of_byte-2.ensures.low;
    forced = low c.word_of_byte-3.ensures.value c.word_of_byte-3.ensures.low;
  };
}
