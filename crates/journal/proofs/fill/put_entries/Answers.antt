-- `journal::fill::put_entries`: after i turns the first i entries. Assumes nothing.
use mathlib.Core.Path.{refl, ◌∙◌}
use native.Mathlib.Omega.{arith}
use Rattle.journal.proofs.LawsPut.{put-none, put_next}
use Rattle.journal.proofs.fill.put_entries.Goals as goal

pub loop-i-init : goal.loop-i-init
loop-i-init c = (omega arith, refl, put-none _ _)

pub loop-i-preserved : goal.loop-i-preserved
loop-i-preserved c =
    (omega arith, c.put_four.auto.b ∙ c.loop-i.invariant.1, put_next _ _ _ _ _ c.loop-i.invariant.2 c.put_four.ensures)
