-- `peatcloak::journal_words::letter_of`: by whether it is a byte. Assumes nothing.
use borrow.Author.Tests.{lt-ltb, le-ltb}
use Rattle.peatcloak.specs.Writing.{letter_of}
use Rattle.peatcloak.proofs.journal_words.letter_of.Goals as goal

pub returns-then-letter-lt256 : goal.returns-then-letter-lt256
unfolding letter_of
returns-then-letter-lt256 c = simp (lt-ltb _ _ c.if-letter-lt256.true)

pub returns-else-letter-lt256 : goal.returns-else-letter-lt256
unfolding letter_of
returns-else-letter-lt256 c = simp (le-ltb _ _ c.if-letter-lt256.false)
