-- `journal::fill::put_head`: three words. Assumes nothing.
use mathlib.Core.Path.{◌∙◌}
use Rattle.journal.specs.Put.{head_put}
use Rattle.journal.proofs.LawsBlock.{test_byte}
use Rattle.journal.proofs.fill.put_head.Goals as goal

pub returns : goal.returns
unfolding head_put
returns c =
    rw (c.put_four-3.ensures, c.put_four-2.ensures, c.put_four.ensures, c.four.ensures, c.from.ensures ∙ test_byte c.args.last, c.halves.ensures)
