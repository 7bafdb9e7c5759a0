-- `journal::tape::put_numbers`: after i turns the first i numbers. Assumes nothing.
use mathlib.Core.Path.{refl}
use native.Mathlib.Omega.{arith}
use lib.ListN.{length-set}
use Rattle.journal.proofs.LawsTape.{put-none, put_next}
use Rattle.journal.proofs.tape.put_numbers.Goals as goal

pub loop-i-init : goal.loop-i-init
loop-i-init c = (omega arith, refl, put-none _ _ _)

pub loop-i-preserved : goal.loop-i-preserved
loop-i-preserved c = (omega arith, simp length-set c.loop-i.invariant.1, put_next _ _ _ _ _ _ c.loop-i.invariant.2 c.number_word.ensures)
