-- `peatcloak::folding::fold_at`: store by store. Assumes nothing.
use lib.Ieee.{of_bits}
use lib.ListN.{length-set}
use native.Mathlib.Omega.{arith}
use Rattle.peatcloak.proofs.LawsFold.{fold-stored}
use Rattle.peatcloak.proofs.folding.fold_at.Goals as goal

pub bounds-numbers-7 : goal.bounds-numbers-7
bounds-numbers-7 c = simp length-set (omega arith)

pub bounds-numbers-8 : goal.bounds-numbers-8
bounds-numbers-8 c = simp length-set (omega arith)

pub bounds-numbers-23 : goal.bounds-numbers-23
bounds-numbers-23 c = simp length-set (omega arith)

pub returns : goal.returns
unfolding of_bits
returns c =
    let a = c.args in
    let t' = fold-stored a.floats.now a.numbers.now c.requires.in_bounds c.requires.in_bounds_2 c.requires.numbers_value c.requires.numbers_value_2 _ _ _ _ _ _ _ _ _ _ _ c.number_at-i.ensures c.number_at-n.ensures c.set_at.ensures c.without-active.ensures c.set_at-2.ensures c.without-owed.ensures c.walk-w.ensures (c.word_of_set.ensures.value, c.word_of_set.ensures.low) (c.word_of_set-2.ensures.value, c.word_of_set-2.ensures.low) c.word_of.ensures c.word_of-2.ensures in record { value = t'.0; floats_after = t'.1.0; numbers_after = t'.1.1.0; stands = t'.1.1.1 }
