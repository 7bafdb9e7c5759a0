-- `rounds::walking::walk_from`: what the loop knows is `Stands`, and each end of it is a law there. Assumes nothing.
use Prim.Native.Nat.{◌-◌}
use Rattle.rounds.proofs.Loop.{Stands}
use Rattle.rounds.proofs.walking.walk_from.Given as goal

abbrev pub invariant-loop-passed : goal.invariant-loop-passed
invariant-loop-passed l = Stands l.owing l.n l.seat l.at l.passed

abbrev pub decreases-loop-passed : goal.decreases-loop-passed
decreases-loop-passed l = l.n - l.passed
