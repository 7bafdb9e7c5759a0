-- `layout::words::flag_at`: the word there is 1, or not. Assumes nothing.
use lib.Dec.{eqb}
use Rattle.layout.proofs.words.flag_at.Goals as goal

pub returns : goal.returns
returns c = λ i. eqb (c.word_at.ensures i) 1
