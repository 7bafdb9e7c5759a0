-- `peatcloak::journal_words::block_words`: each word in its place. Assumes nothing.
use Rattle.peatcloak.specs.Reading.{block_words}
use Rattle.peatcloak.proofs.journal_words.block_words.Goals as goal

pub returns : goal.returns
unfolding block_words
returns c =
    simp (c.word_of_set.ensures.value, c.word_of_set-2.ensures.value, c.word_of_byte.ensures.value, c.word_of_byte-2.ensures.value, c.word_of_flag.ensures, c.word_of_byte-3.ensures.value)
