-- `builder::checks::seats_where`: after i turns the set is that of the first i seats, by any test that tells what the closure does. Assumes nothing.
use Prim.Native.Nat.{ℕ, ◌≤◌, ◌<◌}
use mathlib.Core.Path.{◌≡◌}
use mathlib.Core.Bool.{Bool}
use Rattle.seats.specs.Bits.{seats_where}
use Rattle.builder.proofs.checks.seats_where.Given as goal

abbrev pub invariant-loop-i : goal.invariant-loop-i
invariant-loop-i g l =
    (l.i ≤ l.n)
    × ((p : ℕ → Bool) → ((i : ℕ) (r : Bool) → i < l.n → goal.F-post g l.test i r → r ≡ p i) → l.set ≡ seats_where l.i p)
