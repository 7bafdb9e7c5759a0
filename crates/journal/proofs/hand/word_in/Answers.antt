-- `journal::hand::word_in`. Assumes nothing.
use Rattle.journal.specs.Hand.{word_in}
use borrow.Author.Rules.{rules}
use Rattle.journal.proofs.hand.word_in.Goals as goal

pub returns : goal.returns
unfolding word_in
returns c = search rules
