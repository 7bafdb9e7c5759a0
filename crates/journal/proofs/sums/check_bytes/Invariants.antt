-- `journal::sums::check_bytes`: after i turns the sums of the first i bytes and of their running totals. Assumes nothing.
use Prim.Native.Nat.{◌≤◌, ◌*◌}
use mathlib.Core.Path.{◌≡◌}
use Rattle.journal.specs.Check.{sum_of, run_of}
use Rattle.journal.proofs.sums.check_bytes.Given as goal

abbrev pub invariant-loop-b : goal.invariant-loop-b
invariant-loop-b l = (l.b-index ≤ 510) × (l.sum ≡ sum_of l.b-index l.block) × (l.run ≡ run_of l.b-index l.block) × (l.sum ≤ 255 * l.b-index) × (l.run ≤ 130050 * l.b-index)
