-- `console::opening::amounts_from`: the amounts before the index are laid. Assumes nothing.
use Rattle.std.proofs.Common.{◌≡◌, length}
use Rattle.console.proofs.LawsOpening.{Laid}
use Rattle.console.proofs.opening.amounts_from.Given as goal

abbrev pub invariant-loop-i : goal.invariant-loop-i
invariant-loop-i l = (length l.list ≡ 16) × Laid l.fn.numbers l.list l.i
