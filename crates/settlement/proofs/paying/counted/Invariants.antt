-- `settlement::paying::counted`: each turn fills one place more. Assumes nothing.
use Rattle.std.proofs.Common.{◌≡◌, ◌≤◌}
use Rattle.commons.specs.Filled.{filled}
use Rattle.layers.specs.Settlement.{nothing}
use Rattle.settlement.specs.Hand.{chips_at}
use Rattle.settlement.proofs.paying.counted.Given as goal

abbrev pub invariant-loop-i : goal.invariant-loop-i
invariant-loop-i l = (l.i ≤ 16) × (l.out ≡ filled l.i nothing (chips_at l.fn.l))
