-- `journal::hand::blocks_of`: test by test. Assumes nothing.
use mathlib.Core.Path.{sym}
use Rattle.journal.specs.Hand.{writes}
use Rattle.journal.proofs.hand.blocks_of.Goals as goal

pub returns-then-not-is_edition-is_spelt : goal.returns-then-not-is_edition-is_spelt
unfolding writes
returns-then-not-is_edition-is_spelt c = rw (sym c.is_edition.ensures, sym c.is_spelt.ensures) (simp c.if-not-is_edition-is_spelt.true)

pub returns-then-is_key-tape : goal.returns-then-is_key-tape
unfolding writes
returns-then-is_key-tape c =
    rw (sym c.is_edition.ensures, sym c.is_spelt.ensures, sym c.is_key.ensures) (simp (c.if-not-is_edition-is_spelt.false, c.if-is_key-tape.true))

pub returns-else-is_key-tape : goal.returns-else-is_key-tape
unfolding writes
returns-else-is_key-tape c =
    rw (sym c.is_edition.ensures, sym c.is_spelt.ensures, sym c.is_key.ensures) (simp (c.if-not-is_edition-is_spelt.false, c.if-is_key-tape.false))
