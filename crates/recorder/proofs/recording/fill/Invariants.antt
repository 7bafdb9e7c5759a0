-- `recorder::recording::fill`: after some lines `Filling` holds, and the place goes up with each. Assumes nothing.
use Prim.Native.Nat.{◌-◌}
use lib.ListN.{length}
use Rattle.recorder.proofs.LawsFilling.{Filling}
use Rattle.recorder.proofs.recording.fill.Given as goal

abbrev pub invariant-loop-at : goal.invariant-loop-at
invariant-loop-at l = Filling l.script l.initial.tape l.initial.at l.initial.state l.initial.f l.tape l.at l.state l.f

abbrev pub decreases-loop-at : goal.decreases-loop-at
decreases-loop-at l = length l.script - l.at
