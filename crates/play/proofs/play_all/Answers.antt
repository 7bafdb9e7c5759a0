-- `play::play_all`: 4,096 bytes have room for a line, so that the place goes up with each part. Assumes nothing.
use Rattle.std.proofs.Common.{arith}
use Rattle.console.proofs.LawsWhole.{script-moves}
use Rattle.play.proofs.play_all.Goals as goal

pub loop-at-smaller : goal.loop-at-smaller
loop-at-smaller g c =
    let moves = script-moves c.args.script.now c.loop-at.at c.loop-at.c 4096 c.loop-at-test.true (omega arith) in
    rw c.play_part-p.ensures (omega (arith, moves, c.loop-at-test.true))
