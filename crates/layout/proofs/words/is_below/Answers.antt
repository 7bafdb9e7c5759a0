-- `layout::words::is_below`: the word there is below it, or not. Assumes nothing.
use lib.Dec.{ltb}
use Rattle.layout.proofs.words.is_below.Goals as goal

pub returns : goal.returns
returns c = λ i. ltb (c.word_at.ensures i) c.args.limit
