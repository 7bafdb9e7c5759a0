-- `journal::reading::numbers_at`: what is laid so far and the entries that are left are what the line comes to. Assumes nothing.
use Prim.Native.Nat.{◌≤◌}
use mathlib.Core.Path.{◌≡◌}
use Rattle.journal.specs.Reading.{rest_from, numbers_at}
use Rattle.journal.proofs.LawsReading.{after}
use Rattle.journal.proofs.reading.numbers_at.Given as goal

abbrev pub invariant-loop-at : goal.invariant-loop-at
invariant-loop-at l = (l.count ≤ l.at) × (numbers_at l.bytes l.from l.total ≡ after l.count l.list (rest_from l.bytes l.at l.total))
