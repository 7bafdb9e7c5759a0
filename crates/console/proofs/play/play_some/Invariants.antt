-- `console::play::play_some`: after some lines `Sofar` holds, and the place goes up with each. Assumes nothing.
use Rattle.std.proofs.Common.{◌-◌, length}
use Rattle.console.proofs.LawsParts.{Sofar}
use Rattle.console.proofs.play.play_some.Given as goal

abbrev pub invariant-loop-at : goal.invariant-loop-at
invariant-loop-at l = Sofar l.script l.initial.out l.initial.at l.initial.c l.out l.at l.c l.n

abbrev pub decreases-loop-at : goal.decreases-loop-at
decreases-loop-at l = length l.script - l.at
