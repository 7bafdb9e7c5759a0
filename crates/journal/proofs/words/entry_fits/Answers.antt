-- `journal::words::entry_fits`: by whether it is used. Assumes nothing.
use Rattle.journal.specs.Block.{entry_fits}
use Rattle.journal.proofs.words.entry_fits.Goals as goal

pub returns-then-used : goal.returns-then-used
unfolding entry_fits
returns-then-used c = simp (c.if-used.true, c.is_entry.ensures)

pub returns-else-used : goal.returns-else-used
unfolding entry_fits
returns-else-used c = simp c.if-used.false
