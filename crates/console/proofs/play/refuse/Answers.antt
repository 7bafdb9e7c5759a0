-- `console::play::refuse`: nothing at the end or without room, else the one line. Assumes nothing.
use Rattle.std.proofs.Common.{length}
use Rattle.console.proofs.LawsLong.{says_nothing, says-one, is-left, kept_so, laid_so}
use Rattle.console.proofs.play.refuse.Goals as goal

pub returns-then-n-at : goal.returns-then-n-at
returns-then-n-at c = let t' = kept_so _ (says_nothing c.args.n c.args.at c.args.console _ c.if-n-at.true) in record { value = t'.0; out_after = t'.1 }

pub returns : goal.returns
returns c = let t' = laid_so _ (says-one c.args.n c.args.at c.args.console _ c.if-n-at.false) (rw c.number.ensures at c.print-text.ensures.text)
    (rw c.number.ensures at c.print-text.ensures.fits) (is-left c.args.n c.args.at (length c.args.out.now) c.if-n-at.false).1 (c.copy.ensures 0) in record { value = t'.0; out_after = t'.1 }
