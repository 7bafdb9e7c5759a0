-- `commons::copying::copy`: after k turns the first k places are laid. Assumes nothing.
use Prim.Native.Nat.{◌+◌}
use mathlib.Core.Path.{◌≡◌}
use lib.ListN.{get_or, length}
use Rattle.commons.specs.Filled.{laid}
use Rattle.commons.proofs.copying.copy.Given as goal

abbrev pub invariant-loop-k : goal.invariant-loop-k
invariant-loop-k g l = (length l.to ≡ length l.initial.to) × ((d : _) → l.to ≡ laid l.at l.k l.initial.to (λ i. get_or l.s (l.from + i) d))
