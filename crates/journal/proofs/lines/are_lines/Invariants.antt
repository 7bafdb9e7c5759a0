-- `journal::lines::are_lines`: what is left of the words, read from where the reading stands, has the same answer. Assumes nothing.
use Prim.Native.Nat.{ℕ, ◌<◌, ◌≤◌}
use mathlib.Core.Path.{◌≡◌}
use mathlib.Core.List.{List}
use lib.ListN.{length, get_or, drop}
use Rattle.journal.specs.Lines.{spelt, spells}
use Rattle.journal.specs.contracts.lines.are_lines as promised
use Rattle.journal.proofs.lines.are_lines.Given as goal

abbrev pub invariant-loop-i : goal.invariant-loop-i
invariant-loop-i g l =
    (l.line.count ≤ l.i)
    × ((ws : List ℕ) → length ws ≡ l.n → ((i w : ℕ) → i < l.n → (promised.F-Fn.words g.row.F g.F.Fn).post l.word i w → w ≡ get_or ws i 0)
    → spells ws ≡ spelt l.line.name l.line.count l.line.stacks (drop l.i ws))
