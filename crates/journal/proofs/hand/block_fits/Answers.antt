-- `journal::hand::block_fits`: what is a block is 512 bytes long. Assumes nothing.
use mathlib.Core.Path.{sym, ◌∙◌}
use Rattle.journal.proofs.LawsBlock.{ok-length}
use Rattle.journal.proofs.hand.block_fits.Goals as goal

pub says-requires : goal.says-requires
says-requires c = record { i_lt_n = c.requires; part_len = ok-length _ (sym c.is_block.ensures ∙ c.if-not-is_block.false) }
