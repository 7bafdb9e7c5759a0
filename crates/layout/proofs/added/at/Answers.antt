-- `layout::added::at`: each part is what stands at its place. Assumes nothing.
use Rattle.keys.specs.Keys.{key_of}
use Rattle.table.specs.Added.{added_of}
use Rattle.layout.specs.Added.{added_at}
use Rattle.layout.proofs.added.at.Goals as goal

pub returns : goal.returns
unfolding added_at
returns c = λ i. added_of (key_of (c.set_at.ensures i) (c.set_at-2.ensures i) (c.word_at.ensures i))
