-- `console::play::play_some`: after some lines `Sofar` holds, and the place goes up with each. Assumes nothing.
use Rattle.std.proofs.Common.{arith}
use Rattle.console.proofs.LawsParts.{one_more, goes-up, fits, goes_on, ended, full}
use Rattle.console.proofs.play.play_some.Goals as goal

pub overflow_add-n : goal.overflow_add-n
overflow_add-n c =
    let x = one_more c.loop-at-test.true c.if-out-n-ge72.true c.read_line-read.ensures c.play_line-turn.ensures.turn c.play_line-turn.ensures.fits in
    omega (arith, fits c.loop-at.invariant x, c.loop-at.invariant.long, c.well_formed.1.1.1.0)

pub loop-at-smaller : goal.loop-at-smaller
loop-at-smaller c =
    let x = one_more c.loop-at-test.true c.if-out-n-ge72.true c.read_line-read.ensures c.play_line-turn.ensures.turn c.play_line-turn.ensures.fits in
    omega (arith, goes-up x, c.loop-at-test.true)

pub loop-at-preserved : goal.loop-at-preserved
loop-at-preserved c =
    let x = one_more c.loop-at-test.true c.if-out-n-ge72.true c.read_line-read.ensures c.play_line-turn.ensures.turn c.play_line-turn.ensures.fits in
    goes_on c.loop-at.invariant x _ (c.copy.ensures 0)

pub returns-else-out-n-ge72 : goal.returns-else-out-n-ge72
returns-else-out-n-ge72 c = let t' = full c.loop-at.invariant c.loop-at-test.true c.if-out-n-ge72.false in record { value = t'.0; out_after = t'.1 }

pub returns-after-loop-at : goal.returns-after-loop-at
returns-after-loop-at c = let t' = ended c.loop-at.invariant c.loop-at-test.false in record { value = t'.0; out_after = t'.1 }
