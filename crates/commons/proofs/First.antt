-- Laws of the first place at which a test holds: it is found with nothing before it, or the test holds nowhere; and what is so is it.
-- Assumes nothing.
use Prim.Native.Nat.{ℕ, zero, suc, ◌+◌, ◌<◌, ◌≤◌}
use native.Mathlib.Nat.{eq-or-lt_of_le}
use native.Mathlib.Omega.{arith}
use mathlib.Core.Path.{◌≡◌, refl, subst}
use mathlib.Core.Bool.{Bool, true, false, cond}
use borrow.Author.Count.{below_more}
use mathlib.Core.Logic.{⊎_elim, ◌⊎◌, inl, inr}
use Rattle.commons.specs.First.{first_from}
use Rattle.commons.proofs.Bools.{either, differ}

-- r is the first of the k places from d on
pub record Found (p : ℕ → Bool) (k d r : ℕ) : Type 0 where
  pub from : d ≤ r
  pub upto : r < d + k
  pub holds : p r ≡ true
  pub before : (j : ℕ) → d ≤ j → j < r → p j ≡ false

-- there is none
abbrev pub Nowhere : (ℕ → Bool) → ℕ → ℕ → Type 0
Nowhere p k d = (j : ℕ) → d ≤ j → j < d + k → p j ≡ false

from-here : (p : ℕ → Bool) (d j : ℕ) → p d ≡ false → (suc d ≤ j → p j ≡ false) → d ≤ j → p j ≡ false
from-here p d j here on h = ⊎_elim (λ e. subst (λ (i : ℕ). p i ≡ false) e here) on (eq-or-lt_of_le h)

abbrev Cases : (ℕ → Bool) → ℕ → ℕ → ℕ → ℕ → Type 0
Cases p k d o r = Found p k d r ⊎ ((r ≡ o) × Nowhere p k d)

step : (p : ℕ → Bool) (k d o r : ℕ) → (p d ≡ true) ⊎ (p d ≡ false) → Cases p k (suc d) o r → Cases p (suc k) d o (cond (p d) d r)
step p k d o r (inl t) c = inl (rw t (record { from = omega arith; upto = omega arith; holds = t; before = λ j l h. absurd (omega arith) }))
step p k d o r (inr f) (inl c) =
    inl (rw f (record { from = omega arith; upto = omega arith; holds = c.holds; before = λ j l h. from-here p d j f (λ m. c.before j m h) l }))
step p k d o r (inr f) (inr c) = inr (rw f (c.0, λ j l h. from-here p d j f (λ m. c.1 j m (omega arith)) l))

pub first-cases : (p : ℕ → Bool) (k d o : ℕ) → Found p k d (first_from k d o p) ⊎ ((first_from k d o p ≡ o) × Nowhere p k d)
unfolding first_from
first-cases p zero d o = inr (refl, λ j l h. absurd (omega arith))
first-cases p (suc k) d o = step p k d o (first_from k (suc d) o p) (either (p d)) (first-cases p k (suc d) o)

first_on : (p : ℕ → Bool) (d r next : ℕ) → p r ≡ true → (p d ≡ true) ⊎ (p d ≡ false) → (d ≡ r) ⊎ (d < r) → (d < r → p d ≡ false) → (d < r → next ≡ r) → cond (p d) d next ≡ r
first_on p d r next h (inl t) (inl e) nay on = rw t e
first_on p d r next h (inl t) (inr l) nay on = absurd (differ (p d) t (nay l))
first_on p d r next h (inr q) (inl e) nay on = absurd (differ (p r) h (rw e at q))
first_on p d r next h (inr q) (inr l) nay on = rw q (on l)

-- what is so is it
pub first-is : (p : ℕ → Bool) (k d o r : ℕ) → Found p k d r → first_from k d o p ≡ r
unfolding first_from
first-is p zero d o r f = absurd (omega arith)
first-is p (suc k) d o r f =
    first_on p d r _ f.holds (either (p d)) (eq-or-lt_of_le f.from) (λ l. f.before d (omega arith) l)
    (λ l. first-is p k (suc d) o r (record { from = l; upto = omega arith; holds = f.holds; before = λ j m h. f.before j (omega arith) h }))

pub none_is : (p : ℕ → Bool) (k d o : ℕ) → Nowhere p k d → first_from k d o p ≡ o
unfolding first_from
none_is p zero d o f = refl
none_is p (suc k) d o f = rw (f d (omega arith) (omega arith)) (none_is p k (suc d) o (λ j l h. f j (omega arith) (omega arith)))

-- what a loop that looks at one place after the other knows: the test holds nowhere from d on below i
abbrev pub Passed : (ℕ → Bool) → ℕ → ℕ → Type 0
Passed p d i = (j : ℕ) → j < i → d ≤ j → p j ≡ false

pub passed_on : (p : ℕ → Bool) (d i : ℕ) → Passed p d i → p i ≡ false → Passed p d (i + 1)
passed_on p d i all here = below_more (λ (j : ℕ). d ≤ j → p j ≡ false) i all (λ l. here)

pub found_at : (p : ℕ → Bool) (k d o r : ℕ) → Passed p d r → d ≤ r → r < d + k → p r ≡ true → first_from k d o p ≡ r
found_at p k d o r all l h t = first-is p k d o r (record { from = l; upto = h; holds = t; before = λ j m n. all j n m })
