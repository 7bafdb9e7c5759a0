-- `journal::words::two_at`. Assumes nothing.
use Rattle.journal.specs.Entry.{two_at}
use borrow.Author.Rules.{rules}
use Rattle.journal.proofs.words.two_at.Goals as goal

pub returns : goal.returns
unfolding two_at
returns c = search rules
