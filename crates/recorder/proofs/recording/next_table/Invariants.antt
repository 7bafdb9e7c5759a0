-- `recorder::recording::next_table`: the next accepted `t` is the same from each place that is passed, and the place goes up with each line. Assumes nothing.
use Prim.Native.Nat.{◌-◌}
use mathlib.Core.Path.{◌≡◌}
use lib.ListN.{length}
use Rattle.recorder.specs.Taking.{next_table}
use Rattle.recorder.proofs.recording.next_table.Given as goal

abbrev pub invariant-loop-at : goal.invariant-loop-at
invariant-loop-at l = next_table l.script l.at l.state ≡ next_table l.script l.initial.at l.initial.state

abbrev pub decreases-loop-at : goal.decreases-loop-at
decreases-loop-at l = length l.script - l.at
