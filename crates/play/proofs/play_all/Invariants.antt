-- `play::play_all`: 4,096 bytes have room for a line, so that the place goes up with each part. Assumes nothing.
use Rattle.std.proofs.Common.{length, ◌-◌}
use Rattle.play.proofs.play_all.Given as goal

abbrev pub decreases-loop-at : goal.decreases-loop-at
decreases-loop-at g l = length l.script - l.at
