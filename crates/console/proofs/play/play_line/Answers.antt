-- `console::play::play_line`: the text is of the line's act, and `print` says that 72 bytes hold it. Assumes nothing.
use Rattle.console.proofs.LawsAct.{turn_is, said-short}
use Rattle.console.proofs.play.play_line.Goals as goal

pub returns : goal.returns
returns c = record {
  turn = turn_is c.args.c c.args.w c.obey-a.ensures c.view_of.ensures _ _ (rw c.number.ensures at c.print-text.ensures.text) c.count_up.ensures;
  fits = said-short c.args.c c.args.w c.obey-a.ensures c.view_of.ensures (rw c.number.ensures at c.print-text.ensures.fits);
}
