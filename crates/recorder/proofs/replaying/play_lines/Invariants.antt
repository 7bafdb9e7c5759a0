-- `recorder::replaying::play_lines`: after some lines `Playing` holds, and the place goes up with each. Assumes nothing.
use Prim.Native.Nat.{◌-◌}
use Rattle.recorder.proofs.LawsPlaying.{Playing}
use Rattle.recorder.proofs.replaying.play_lines.Given as goal

abbrev pub invariant-loop-at : goal.invariant-loop-at
invariant-loop-at l = Playing l.bytes l.head l.state l.at l.lines

abbrev pub decreases-loop-at : goal.decreases-loop-at
decreases-loop-at l = l.head.entries - l.at
