-- `layers::layer::most`: after i turns the largest of the first i seats. Assumes nothing.
use Prim.Native.Nat.{ℕ, ◌<◌, ◌≤◌}
use mathlib.Core.Path.{◌≡◌}
use mathlib.Core.Bool.{Bool, cond}
use Rattle.commons.specs.Folds.{most_to}
use Rattle.layers.specs.contracts.layer.most as promised
use Rattle.layers.proofs.layer.most.Given as goal

abbrev pub invariant-loop-i : goal.invariant-loop-i
invariant-loop-i g l =
    (l.i ≤ l.n)
    × ((pass : ℕ → Bool) (key : ℕ → ℕ) → ((i x : ℕ) → i < l.n → (promised.F-Fn.words g.row.F g.F.Fn).post l.of i x → x ≡ cond (pass i) (key i) 0)
    → l.most ≡ most_to l.i pass key)
