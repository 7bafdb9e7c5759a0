-- `layout::laying::lay_data`: both are laid where both have room. Assumes nothing.
use borrow.Author.Tests.{le-leb, lt-leb}
use Rattle.layout.proofs.LawsBack.{data_all, data_nothing}
use Rattle.layout.proofs.laying.lay_data.Goals as goal

pub returns-then-numbers-ge-NUMBERS : goal.returns-then-numbers-ge-NUMBERS
returns-then-numbers-ge-NUMBERS c =
    let a = c.args in
    let t' = data_all a.d a.passed a.floats.now a.numbers.now _ _ c.if-floats-ge-FLOATS.true c.if-numbers-ge-NUMBERS.true c.lay_data_floats.ensures c.lay_data_numbers.ensures in record { floats_after = t'.0; numbers_after = t'.1 }

pub returns-else-numbers-ge-NUMBERS : goal.returns-else-numbers-ge-NUMBERS
returns-else-numbers-ge-NUMBERS c = let a = c.args in
    let t' = data_nothing a.d a.passed a.floats.now a.numbers.now (simp (le-leb _ _ c.if-floats-ge-FLOATS.true, lt-leb _ _ c.if-numbers-ge-NUMBERS.false)) in record { floats_after = t'.0; numbers_after = t'.1 }

pub returns-else-floats-ge-FLOATS : goal.returns-else-floats-ge-FLOATS
returns-else-floats-ge-FLOATS c = let a = c.args in
    let t' = data_nothing a.d a.passed a.floats.now a.numbers.now (simp (lt-leb _ _ c.if-floats-ge-FLOATS.false)) in record { floats_after = t'.0; numbers_after = t'.1 }
