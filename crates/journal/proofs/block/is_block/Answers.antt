-- `journal::block::is_block`: test by test. Assumes nothing.
use Rattle.journal.proofs.LawsBlock.{no_block, tested}
use Rattle.journal.proofs.block.is_block.Goals as goal

pub returns-then-block-ne512 : goal.returns-then-block-ne512
returns-then-block-ne512 c = no_block _ c.if-block-ne512.true

pub returns : goal.returns
returns c =
    tested _ _ _ _ _ _ _ c.if-block-ne512.false c.check_bytes-check.ensures c.two_at.ensures c.is_edition.ensures c.is_zero.ensures c.entries_fit.ensures c.is_zero-2.ensures
