-- The walk from seat s round a table of n: the first seat on that f holds, one place on where none is held. It moves, passes no seat of f, and comes to one if there is one.
-- Assumes nothing.
use Prim.Native.Nat.{ℕ, ◌+◌, ◌-◌, ◌%◌, ◌≤◌, ◌<◌}
use native.Mathlib.Nat.{mod-eq_of_lt, mod-eq-sub-mod}
use native.Mathlib.Omega.{arith}
use mathlib.Core.Path.{◌≡◌, sym, ap, ◌∙◌}
use mathlib.Core.Logic.{⊎_elim, ◌≢◌}
use mathlib.Core.Bool.{Bool, true, false}
use Rattle.commons.specs.First.{first_from}
use Rattle.commons.proofs.First.{first-cases}
use Rattle.commons.proofs.Bools.{differ}
use Rattle.commons.proofs.Order.{lt_or_le}
use Rattle.rounds.proofs.Walk.{on-on, clockwise, clockwise-low, clockwise-high, seat-at}

-- how far it goes
abbrev pub gap : ℕ → (ℕ → Bool) → ℕ → ℕ
gap n f s = first_from n 1 1 (λ d. f ((s + d) % n))

-- ---- round the table
-- the seat j is 1 to n places on from s
place : (n s j : ℕ) → s < n → j < n → (i : ℕ) × (1 ≤ i) × (i ≤ n) × ((s + i) % n ≡ j)
place n s j S J = (clockwise n s j, clockwise-low n s S j, clockwise-high n s S j J, seat-at n s j S J)

-- fewer than n places on is another seat
pub elsewhere : (n s d : ℕ) → s < n → 0 < d → d < n → (s + d) % n ≢ s
elsewhere n s d h p l e =
    ⊎_elim
    (λ (k : s + d < n). omega (arith, sym (mod-eq_of_lt k) ∙ e))
    (λ (g : n ≤ s + d). let k : s + d - n < n = omega arith in omega (arith, sym (mod-eq-sub-mod g ∙ mod-eq_of_lt k) ∙ e))
    (lt_or_le (s + d) n)

-- d places on, as g places and then the rest
pub further : (n s g d : ℕ) → g ≤ d → ((s + g) % n + (d - g)) % n ≡ (s + d) % n
further n s g d h = let e : g + (d - g) ≡ d = omega arith in on-on n s g (d - g) ∙ rw e

-- ---- the walk
module _ (n : ℕ) (f : ℕ → Bool) (s : ℕ) where
  pub gap-moves : 1 ≤ gap n f s
  gap-moves = ⊎_elim (λ w. w.from) (λ w. omega (arith, w.0)) (first-cases (λ d. f ((s + d) % n)) n 1 1)

  pub gap_passes : (i : ℕ) → 1 ≤ i → i < gap n f s → f ((s + i) % n) ≡ false
  gap_passes i p l = ⊎_elim (λ w. w.before i p l) (λ w. absurd (omega (arith, w.0))) (first-cases (λ d. f ((s + d) % n)) n 1 1)

  pub gap_lands : (j : ℕ) → s < n → j < n → f j ≡ true → f ((s + gap n f s) % n) ≡ true
  gap_lands j S J t =
      let i = place n s j S J in
      ⊎_elim (λ w. w.holds) (λ w. absurd (differ (f ((s + i.0) % n)) (ap f i.3 ∙ t) (w.1 i.0 i.1 (omega (arith, i.2))))) (first-cases (λ d. f ((s + d) % n)) n 1 1)
