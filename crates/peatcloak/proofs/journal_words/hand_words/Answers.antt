-- `peatcloak::journal_words::hand_words`: each word in its place. Assumes nothing.
use Rattle.peatcloak.specs.Reading.{hand_words}
use Rattle.peatcloak.proofs.journal_words.hand_words.Goals as goal

pub returns : goal.returns
unfolding hand_words
returns c =
    simp (c.word_of_set.ensures.value, c.word_of_set-2.ensures.value, c.word_of_byte.ensures.value, c.word_of.ensures, c.word_of-2.ensures)
