-- One place of n changed: what holds of each place afterwards, the sum, and a set that a seat has left. Assumes nothing.
use Prim.Native.Nat.{ℕ, ◌+◌, ◌<◌}
use mathlib.Core.Path.{◌≡◌, refl, sym, ap, ◌∙◌, subst}
use mathlib.Core.Logic.{◌⊎◌, inl, inr, ⊎_elim, ◌≢◌}
use mathlib.Core.Bool.{Bool, true, false}
use lib.Dec.{eqb}
use borrow.Author.Tests.{eqb-true, eqb-false}
use Rattle.commons.proofs.Bools.{either, differ}
use Rattle.commons.specs.Folds.{sum_to}
use Rattle.commons.proofs.Folds.{sum_change}
use Rattle.order.proofs.Sets.{Within}

-- g is f with v at the place s
pub record Put {A : Type 0} (n : ℕ) (f g : ℕ → A) (s : ℕ) (v : A) : Type 0 where
  pub here : g s ≡ v
  pub there : (i : ℕ) → i < n → i ≢ s → g i ≡ f i

pub which : (i s : ℕ) → (i ≡ s) ⊎ (i ≢ s)
which i s = ⊎_elim (λ e. inl (eqb-true i s e)) (λ f. inr (eqb-false i s f)) (either (eqb i s))

-- what holds of v at s, and of f elsewhere, holds of g
pub put_each : {A : Type 0} {n : ℕ} {f g : ℕ → A} {s : ℕ} {v : A} (P : ℕ → A → Type 0) → Put n f g s v → P s v → ((i : ℕ) → i < n → i ≢ s → P i (f i)) → (i : ℕ) → i < n → P i (g i)
put_each {f} {g} {s} {v} P p h k i l =
    ⊎_elim (λ (e : i ≡ s). subst (λ (j : ℕ). P j (g j)) (sym e) (subst (P s) (sym p.here) h)) (λ n. subst (P i) (sym (p.there i l n)) (k i l n)) (which i s)

pub put-sum : {n : ℕ} {f g : ℕ → ℕ} {s v : ℕ} → Put n f g s v → s < n → sum_to n g + f s ≡ sum_to n f + v
put-sum {n} {f} {g} {s} p l = rw (← p.here) (sum_change n f g s l p.there)

-- a set without the seat s
pub left-within : {n : ℕ} {f g : ℕ → Bool} {s : ℕ} → Put n f g s false → Within n g f
left-within {n} {f} {g} {s} p = put_each (λ i b. b ≡ true → f i ≡ true) p (λ t. absurd (differ false t refl)) (λ i l h t. t)

-- who is in it, is another
pub left_other : {n : ℕ} {f g : ℕ → Bool} {s : ℕ} → Put n f g s false → (i : ℕ) → g i ≡ true → i ≢ s
left_other {g} p i t e = differ (g i) t (ap g e ∙ p.here)
