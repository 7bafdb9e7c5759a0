-- `peatcloak::peatcloak_version`: four words are copied where there is room for them. Assumes nothing.
use mathlib.Core.Path.{refl}
use borrow.Author.Tests.{le-leb, lt-leb}
use Rattle.peatcloak.proofs.peatcloak_version.Goals as goal

pub returns-then-out-ge4 : goal.returns-then-out-ge4
returns-then-out-ge4 c =
    record { value = simp (le-leb 4 _ c.if-out-ge4.true, c.copy.ensures 0, c.word_of.ensures, c.word_of-then-out-ge4.ensures) (refl); out_after = simp (le-leb 4 _ c.if-out-ge4.true, c.copy.ensures 0, c.word_of.ensures, c.word_of-then-out-ge4.ensures) (refl) }

pub returns : goal.returns
returns c = record { value = simp (lt-leb 4 _ c.if-out-ge4.false) (refl); out_after = simp (lt-leb 4 _ c.if-out-ge4.false) (refl) }
