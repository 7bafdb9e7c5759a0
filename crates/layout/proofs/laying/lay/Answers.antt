-- `layout::laying::lay`: both are laid where both have room, and what the parts say of their types is all that reading back asks. Assumes nothing.
use borrow.Author.Tests.{le-leb, lt-leb}
use Rattle.layout.proofs.LawsBack.{laid-all, laid-nothing}
use Rattle.layout.proofs.laying.lay.Goals as goal

pub returns-then-numbers-ge-NUMBERS : goal.returns-then-numbers-ge-NUMBERS
returns-then-numbers-ge-NUMBERS c =
    let a = c.args in
    let t' = laid-all a.t a.paid a.passed a.floats.now a.numbers.now _ _ c.if-floats-ge-FLOATS.true c.if-numbers-ge-NUMBERS.true c.lay_floats.ensures.floats_after c.lay_numbers.ensures.numbers_after (record { lists = c.lay_floats.ensures.fits; numbers = c.lay_numbers.ensures.fits.0; added = c.lay_numbers.ensures.fits.1 }) in record { floats_after = t'.0; numbers_after = t'.1.0; back = t'.1.1 }

pub returns-else-numbers-ge-NUMBERS : goal.returns-else-numbers-ge-NUMBERS
returns-else-numbers-ge-NUMBERS c = let a = c.args in
    let t' = laid-nothing a.t a.paid a.passed a.floats.now a.numbers.now (simp (le-leb _ _ c.if-floats-ge-FLOATS.true, lt-leb _ _ c.if-numbers-ge-NUMBERS.false)) in record { floats_after = t'.0; numbers_after = t'.1.0; back = t'.1.1 }

pub returns-else-floats-ge-FLOATS : goal.returns-else-floats-ge-FLOATS
returns-else-floats-ge-FLOATS c = let a = c.args in
    let t' = laid-nothing a.t a.paid a.passed a.floats.now a.numbers.now (simp (lt-leb _ _ c.if-floats-ge-FLOATS.false)) in record { floats_after = t'.0; numbers_after = t'.1.0; back = t'.1.1 }
