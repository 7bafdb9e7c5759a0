-- `journal::block::Title::is_same`: the key, then the edition. Assumes nothing.
use Rattle.journal.specs.Hand.{same_title}
use Rattle.journal.proofs.block.Title.is_same.Goals as goal

pub returns : goal.returns
unfolding same_title
returns c = c.eq.ensures
