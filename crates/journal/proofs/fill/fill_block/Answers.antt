-- `journal::fill::fill_block`: the block laid over all 512 bytes. Assumes nothing.
use mathlib.Core.Path.{ap, ◌∙◌}
use lib.ListN.{length}
use Rattle.journal.proofs.LawsPut.{over-all}
use Rattle.journal.proofs.LawsBack.{block-long}
use Rattle.journal.proofs.fill.fill_block.Goals as goal

pub returns : goal.returns
returns c =
    c.copy.ensures 0
    ∙ over-all c.args.out.now c.block_of-block.result c.requires.out_len (ap length c.block_of-block.ensures ∙ block-long _ _ _ _ c.requires.entries_len_bound)
    ∙ c.block_of-block.ensures
