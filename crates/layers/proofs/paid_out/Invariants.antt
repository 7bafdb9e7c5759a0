-- `layers::paid_out`: each turn pays the layer under u, and goes on at the level below until there is none. Assumes nothing.
use Rattle.layers.proofs.Paying.{Paying}
use Rattle.layers.proofs.paid_out.Given as goal

abbrev pub invariant-loop-seated : goal.invariant-loop-seated
invariant-loop-seated l = Paying l.fn.h l.paid l.u l.held

abbrev pub decreases-loop-seated : goal.decreases-loop-seated
decreases-loop-seated l = l.u
