-- `recorder::replaying::play_lines`: after some lines `Playing` holds, and the place goes up with each. Assumes nothing.
use native.Mathlib.Omega.{arith}
use mathlib.Core.Path.{sym, ◌∙◌}
use Rattle.recorder.proofs.LawsPlaying.{begins, ends, goes-up, stops, goes_on}
use Rattle.recorder.proofs.replaying.play_lines.Goals as goal

pub loop-at-init : goal.loop-at-init
loop-at-init c = begins c.args.bytes.now c.args.head c.requires c.fresh_with-state.ensures

pub returns-then-number-ne0 : goal.returns-then-number-ne0
returns-then-number-ne0 c =
    stops c.args.bytes.now c.args.head c.requires c.loop-at.invariant c.loop-at-test.true c.line_at-read.ensures c.obey-act.ensures (λ z. c.if-number-ne0.true (c.number.ensures ∙ z))

pub overflow_add-lines : goal.overflow_add-lines
overflow_add-lines c =
    omega (arith, c.loop-at.invariant.few, c.loop-at-test.true)

pub loop-at-smaller : goal.loop-at-smaller
loop-at-smaller c =
    omega (arith, goes-up c.args.bytes.now c.args.head c.requires c.loop-at.invariant c.loop-at-test.true c.line_at-read.ensures c.obey-act.ensures, c.loop-at-test.true)

pub loop-at-preserved : goal.loop-at-preserved
loop-at-preserved c =
    goes_on c.args.bytes.now c.args.head c.requires c.loop-at.invariant c.loop-at-test.true c.line_at-read.ensures c.obey-act.ensures (sym c.number.ensures ∙ c.if-number-ne0.false)

pub returns : goal.returns
returns c =
    ends c.args.bytes.now c.args.head c.requires c.loop-at.invariant c.loop-at-test.false
