-- `journal::fill::put_entries`: after i turns the first i entries. Assumes nothing.
use Prim.Native.Nat.{◌≤◌}
use mathlib.Core.Path.{◌≡◌}
use lib.ListN.{length}
use Rattle.journal.specs.Put.{words_put}
use Rattle.journal.proofs.fill.put_entries.Given as goal

abbrev pub invariant-loop-i : goal.invariant-loop-i
invariant-loop-i l = (l.i ≤ length l.entries) × (length l.out ≡ length l.initial.out) × (l.out ≡ words_put l.i l.initial.out l.entries)
