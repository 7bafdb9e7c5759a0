-- `settlement::paying::with_awards`: each turn raises one place more. Assumes nothing.
use Rattle.std.proofs.Common.{◌≡◌, length, get_or}
use lib.Ieee.{nan}
use Rattle.commons.specs.Filled.{filled}
use Rattle.settlement.specs.Settlement.{raised}
use Rattle.settlement.proofs.paying.with_awards.Given as goal

abbrev pub invariant-loop-i : goal.invariant-loop-i
invariant-loop-i l = l.out ≡ filled (length l.yielded) l.fn.l (λ k. raised (get_or l.fn.l k nan) (get_or l.fn.awards k 0))
