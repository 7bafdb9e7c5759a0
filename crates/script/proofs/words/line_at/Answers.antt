-- `script::words::line_at` meets its contract: the bytes up to the LF, or none at the end of the script. Assumes nothing.
use borrow.Author.Tests.{lt-ltb, le-ltb}
use lib.ListN.{drop_of_length-le}
use Rattle.script.specs.Split.{before, pieces}
use Rattle.script.specs.Words.{words_of}
use Rattle.script.specs.Read.{read_at}
use Rattle.script.proofs.LawsSplit.{up_to}
use Rattle.script.proofs.words.line_at.Goals as goal

pub returns-then-at-script : goal.returns-then-at-script
unfolding read_at
returns-then-at-script c =
    let args = c.args in
    simp (lt-ltb _ _ c.if-at-script.true, c.words_of-words.ensures, c.find-end.ensures.value, up_to args.script.now args.at 10)

pub returns : goal.returns
unfolding read_at words_of pieces before
returns c =
    let past = c.if-at-script.false in
    simp (le-ltb _ _ past, drop_of_length-le c.args.script.now past, c.no_words.ensures)
