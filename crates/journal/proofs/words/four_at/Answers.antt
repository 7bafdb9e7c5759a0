-- `journal::words::four_at`. Assumes nothing.
use Rattle.journal.specs.Entry.{four_at}
use borrow.Author.Rules.{rules}
use Rattle.journal.proofs.words.four_at.Goals as goal

pub returns : goal.returns
unfolding four_at
returns c = search rules
