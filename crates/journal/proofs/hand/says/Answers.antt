-- `journal::hand::says`: number, last, key. Assumes nothing.
use mathlib.Core.Path.{◌∙◌}
use Rattle.journal.specs.Hand.{block_says}
use Rattle.journal.proofs.LawsBlock.{test_byte}
use Rattle.journal.proofs.hand.says.Goals as goal

pub returns : goal.returns
unfolding block_says
returns c = rw (c.is_same.ensures, c.from-2.ensures ∙ test_byte _, c.from.ensures, c.title_at-k.ensures)
