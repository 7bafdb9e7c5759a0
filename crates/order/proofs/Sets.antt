-- A set of seats is a test of each seat. How many of the seats below n it holds, against another set; and that this is the count of crates/seats.
-- Assumes nothing.
use Prim.Native.Nat.{ℕ, zero, suc, ◌+◌, ◌≤◌, ◌<◌}
use native.Mathlib.Nat.{add_comm}
use native.Mathlib.Omega.{arith}
use mathlib.Core.Path.{◌≡◌, refl, ap}
use mathlib.Core.Logic.{⊎_elim}
use mathlib.Core.Bool.{Bool, true, false, cond}
use Rattle.seats.specs.Bits.{has, count_to}
use Rattle.commons.proofs.Bools.{either, differ}
use Rattle.commons.specs.Folds.{sum_to}
use Rattle.commons.proofs.Folds.{sum_mono, sum_less, sum-most}

abbrev pub one_if : Bool → ℕ
one_if b = cond b 1 0

abbrev pub count : ℕ → (ℕ → Bool) → ℕ
count n f = sum_to n (λ i. one_if (f i))

pub count-is : (n s : ℕ) → count n (has s) ≡ count_to n s
unfolding sum_to count_to
count-is zero s = refl
count-is (suc n) s = rw (count-is n s) (add_comm (count_to n s) (one_if (has s n)))

-- each seat below n that f holds, g holds
abbrev pub Within : ℕ → (ℕ → Bool) → (ℕ → Bool) → Type 0
Within n f g = (i : ℕ) → i < n → f i ≡ true → g i ≡ true

one-le : (a b : Bool) → (a ≡ true → b ≡ true) → one_if a ≤ one_if b
one-le true b h = rw (h refl) (omega arith)
one-le false b h = omega arith

pub count_mono : (n : ℕ) (f g : ℕ → Bool) → Within n f g → count n f ≤ count n g
count_mono n f g h = sum_mono n (λ i. one_if (f i)) (λ i. one_if (g i)) (λ i l. one-le (f i) (g i) (h i l))

pub count-drop : (n : ℕ) (f g : ℕ → Bool) (s : ℕ) → s < n → g s ≡ true → f s ≡ false → Within n f g → count n f < count n g
count-drop n f g s l p q h = sum_less n (λ i. one_if (f i)) (λ i. one_if (g i)) s l (rw (p, q) (omega arith)) (λ i l. one-le (f i) (g i) (h i l))

-- a set that holds a seat holds some, and one that holds some holds a seat
pub count-some : (n : ℕ) (f : ℕ → Bool) (s : ℕ) → s < n → f s ≡ true → 0 < count n f
count-some n f s l p = omega (arith, count-drop n (λ i. false) f s l p refl (λ i l t. absurd (differ false t refl)))

pub count_any : (n : ℕ) (f : ℕ → Bool) → 0 < count n f → (j : ℕ) × (j < n) × (f j ≡ true)
unfolding sum_to
count_any zero f h = absurd (omega arith)
count_any (suc n) f h =
    let k : 0 < count n f + one_if (f n) = h in
    ⊎_elim (λ t. (n, omega arith, t)) (λ e. let j = count_any n f (omega (arith, ap one_if e)) in (j.0, omega (arith, j.1), j.2)) (either (f n))

pub count-le : (n : ℕ) (f : ℕ → Bool) → count n f ≤ n
count-le n f = omega (arith, sum-most n (λ i. one_if (f i)) 1 (λ i l. one-le (f i) true (λ t. refl)))

pub count-lt : (n : ℕ) (f : ℕ → Bool) (s : ℕ) → s < n → f s ≡ false → count n f < n
count-lt n f s l q = omega (arith, count-drop n f (λ i. true) s l refl q (λ i l t. refl), count-le n (λ i. true))
