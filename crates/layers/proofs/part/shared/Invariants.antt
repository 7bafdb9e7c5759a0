-- `layers::part::shared`: each turn gives one place more its share; k counts the set's seats so far. Assumes nothing.
use Prim.Native.Nat.{◌≤◌, ◌+◌}
use mathlib.Core.Path.{◌≡◌}
use lib.ListN.{get_or}
use Rattle.seats.specs.Bits.{count_to}
use Rattle.commons.specs.Filled.{filled}
use Rattle.layers.specs.Sharing.{share_of}
use Rattle.layers.proofs.part.shared.Given as goal

abbrev pub invariant-loop-i : goal.invariant-loop-i
invariant-loop-i l = (l.i ≤ 16) × (l.k ≡ count_to l.i l.set) × (l.out ≡ filled l.i l.fn.paid (λ i'. get_or l.fn.paid i' 0 + share_of l.n l.first l.set l.amount i'))
