-- `recorder::recording::next_table`: the next accepted `t` is the same from each place that is passed, and the place goes up with each line. Assumes nothing.
use native.Mathlib.Omega.{arith}
use mathlib.Core.Path.{refl, sym, ◌∙◌}
use Rattle.recorder.proofs.LawsTaking.{at-end, line, goes-up, stops-here, goes_on}
use Rattle.recorder.proofs.recording.next_table.Goals as goal

pub loop-at-init : goal.loop-at-init
loop-at-init c = refl

pub returns-then-is_opening : goal.returns-then-is_opening
returns-then-is_opening c =
    let x = line c.loop-at-test.true c.read_line-read.ensures c.obey-act.ensures in
    sym (stops-here x (sym (rw c.number.ensures at c.is_opening.ensures) ∙ c.if-is_opening.true)) ∙ c.loop-at.invariant

pub loop-at-smaller : goal.loop-at-smaller
loop-at-smaller c =
    let x = line c.loop-at-test.true c.read_line-read.ensures c.obey-act.ensures in
    omega (arith, goes-up x, c.loop-at-test.true)

pub loop-at-preserved : goal.loop-at-preserved
loop-at-preserved c =
    let x = line c.loop-at-test.true c.read_line-read.ensures c.obey-act.ensures in
    sym (goes_on x (sym (rw c.number.ensures at c.is_opening.ensures) ∙ c.if-is_opening.false)) ∙ c.loop-at.invariant

pub returns : goal.returns
returns c = sym (at-end _ _ _ c.loop-at-test.false) ∙ c.loop-at.invariant
