-- `journal::tape::put_numbers`: after i turns the first i numbers. Assumes nothing.
use Prim.Native.Nat.{◌≤◌}
use mathlib.Core.Path.{◌≡◌}
use lib.ListN.{length}
use Rattle.journal.specs.Tape.{numbers_put}
use Rattle.journal.proofs.tape.put_numbers.Given as goal

abbrev pub invariant-loop-i : goal.invariant-loop-i
invariant-loop-i l = (l.i ≤ length l.numbers) × (length l.tape ≡ length l.initial.tape) × (l.tape ≡ numbers_put l.i l.initial.tape l.at l.numbers)
