-- `peatcloak::journal_words::title_of`: each word in its place. Assumes nothing.
use Rattle.peatcloak.specs.Writing.{title_in}
use Rattle.peatcloak.proofs.journal_words.title_of.Goals as goal

pub returns : goal.returns
unfolding title_in
returns c =
    simp (c.set_at.ensures, c.set_at-2.ensures, c.word_at.ensures, c.byte_at.ensures)
