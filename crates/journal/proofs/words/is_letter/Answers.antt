-- `journal::words::is_letter`: letter by letter. Assumes nothing.
use Rattle.journal.specs.Entry.{is_letter}
use borrow.Author.Rules.{rules}
use Rattle.journal.proofs.words.is_letter.Goals as goal

pub returns : goal.returns
unfolding is_letter
returns c = search rules
