-- `journal::block::read_block`: by the tests. Assumes nothing.
use mathlib.Core.Path.{sym, ap, ◌∙◌}
use Rattle.std.specs.Prelude.{Ok}
use Rattle.journal.proofs.LawsBlock.{refused, accepted, ok-length}
use Rattle.journal.proofs.block.read_block.Goals as goal

pub returns-then-not-is_block : goal.returns-then-not-is_block
returns-then-not-is_block c = refused _ (sym c.is_block.ensures ∙ c.if-not-is_block.true)

pub head_of-requires : goal.head_of-requires
head_of-requires c = ok-length _ (sym c.is_block.ensures ∙ c.if-not-is_block.false)

pub returns : goal.returns
returns c = ap Ok c.head_of.ensures ∙ accepted _ (sym c.is_block.ensures ∙ c.if-not-is_block.false)
