-- `peatcloak::journal_words::title_fits`: each test in its place. Assumes nothing.
use Rattle.peatcloak.specs.Writing.{title_fits}
use Rattle.peatcloak.proofs.journal_words.title_fits.Goals as goal

pub returns : goal.returns
unfolding title_fits
returns c =
    simp (c.is_below.ensures, c.is_below-2.ensures, c.is_below-3.ensures)
