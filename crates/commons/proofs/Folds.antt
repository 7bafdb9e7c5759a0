-- Laws of sums and tests over the places below n: what one place holds of the whole, what changes where one place changes, and one place more, as a loop
-- goes on. Assumes nothing.
use Prim.Native.Nat.{ℕ, zero, suc, ◌+◌, ◌*◌, ◌≤◌, ◌<◌, max}
use native.Mathlib.Nat.{add-zero, add-suc, eq-or-lt_of_le}
use native.Mathlib.Numerals.{add-one}
use native.Mathlib.Omega.{arith}
use mathlib.Core.Path.{◌≡◌, refl, sym, ap, ◌∙◌}
use mathlib.Core.Logic.{⊎_elim, ◌≢◌}
use mathlib.Core.Bool.{Bool, true, false, cond, ◌&&◌, ◌||◌, or-true, false≢true}
use Rattle.commons.specs.Folds.{sum_to, all_to, most_to, any_to}
use Rattle.commons.proofs.Bools.{either, differ, and_both, and-true, and_assoc, or_cases, chosen}
use Rattle.commons.proofs.Order.{lt_or_le, last_or}

-- ---- sums
pub sum_same : (n : ℕ) (f g : ℕ → ℕ) → ((i : ℕ) → i < n → f i ≡ g i) → sum_to n f ≡ sum_to n g
unfolding sum_to
sum_same zero f g e = refl
sum_same (suc n) f g e = rw (sum_same n f g (λ i h. e i (omega arith)), e n (omega arith))

pub sum-most : (n : ℕ) (f : ℕ → ℕ) (c : ℕ) → ((i : ℕ) → i < n → f i ≤ c) → sum_to n f ≤ n * c
unfolding sum_to
sum-most zero f c e = omega arith
sum-most (suc n) f c e = omega (arith, sum-most n f c (λ i h. e i (omega arith)), e n (omega arith))

pub sum_mono : (n : ℕ) (f g : ℕ → ℕ) → ((i : ℕ) → i < n → f i ≤ g i) → sum_to n f ≤ sum_to n g
unfolding sum_to
sum_mono zero f g e = omega arith
sum_mono (suc n) f g e = omega (arith, sum_mono n f g (λ i h. e i (omega arith)), e n (omega arith))

-- less at one place, and more at none
pub sum_less : (n : ℕ) (f g : ℕ → ℕ) (s : ℕ) → s < n → f s < g s → ((i : ℕ) → i < n → f i ≤ g i) → sum_to n f < sum_to n g
unfolding sum_to
sum_less zero f g s h l e = absurd (omega arith)
sum_less (suc n) f g s h l e =
    ⊎_elim
    (λ (z : s ≡ n). omega (arith, rw z at l, sum_mono n f g (λ i j. e i (omega arith))))
    (λ (j : s < n). omega (arith, sum_less n f g s j l (λ i j. e i (omega arith)), e n (omega arith)))
    (last_or h)

pub sum-part : (n : ℕ) (f : ℕ → ℕ) (i : ℕ) → i < n → f i ≤ sum_to n f
unfolding sum_to
sum-part zero f i h = absurd (omega arith)
sum-part (suc n) f i h = ⊎_elim (λ e. rw e (omega arith)) (λ (l : i < n). omega (arith, sum-part n f i l)) (last_or h)

-- g is f but for one place
pub sum_change : (n : ℕ) (f g : ℕ → ℕ) (s : ℕ) → s < n → ((i : ℕ) → i < n → i ≢ s → g i ≡ f i) → sum_to n g + f s ≡ sum_to n f + g s
unfolding sum_to
sum_change zero f g s h e = absurd (omega arith)
sum_change (suc n) f g s h e =
    ⊎_elim
    (λ (z : s ≡ n). rw (z, sum_same n g f (λ i l. e i (omega arith) (λ j. omega arith))) (omega arith))
    (λ (l : s < n). omega (arith, sum_change n f g s l (λ i l. e i (omega arith)), e n (omega arith) (λ j. omega arith)))
    (last_or h)

-- nothing stands from n on
pub sum-gap : (n d : ℕ) (f : ℕ → ℕ) → ((i : ℕ) → n ≤ i → i < n + d → f i ≡ 0) → sum_to (n + d) f ≡ sum_to n f
unfolding sum_to
sum-gap n zero f e = rw add-zero
sum-gap n (suc d) f e = rw add-suc (omega (arith, sum-gap n d f (λ i g h. e i g (omega arith)), e (n + d) (omega arith) (omega arith)))

-- one place more, as a loop goes on
pub sum-next : (f : ℕ → ℕ) (i m x : ℕ) → m ≡ sum_to i f → x ≡ f i → m + x ≡ sum_to (i + 1) f
unfolding sum_to
sum-next f i m x a b = rw (add-one i, a, b)

pub sum-add : (k : ℕ) (f g : ℕ → ℕ) → sum_to k (λ i. f i + g i) ≡ sum_to k f + sum_to k g
unfolding sum_to
sum-add zero f g = refl
sum-add (suc k) f g = omega (arith, sum-add k f g)

pub sum-zero : (k : ℕ) → sum_to k (λ i. 0) ≡ 0
unfolding sum_to
sum-zero zero = refl
sum-zero (suc k) = omega (arith, sum-zero k)

pub sum_swap : (n m : ℕ) (f : ℕ → ℕ → ℕ) → sum_to n (λ i. sum_to m (λ u. f u i)) ≡ sum_to m (λ u. sum_to n (f u))
unfolding sum_to
sum_swap zero m f = sym (sum-zero m)
sum_swap (suc n) m f = ap (λ (x : ℕ). x + sum_to m (λ u. f u n)) (sum_swap n m f) ∙ sym (sum-add m (λ u. sum_to n (f u)) (λ u. f u n))

-- nothing from a on
pub sum-stays : (a b : ℕ) (f : ℕ → ℕ) → a ≤ b → ((i : ℕ) → a ≤ i → i < b → f i ≡ 0) → sum_to b f ≡ sum_to a f
unfolding sum_to
sum-stays a zero f h e = let z : a ≡ 0 = omega arith in rw z
sum-stays a (suc b) f h e =
    ⊎_elim
    (λ q. rw q)
    (λ l. omega (arith, e b (omega arith) (omega arith), sum-stays a b f (omega arith) (λ i k m. e i k (omega arith))))
    (eq-or-lt_of_le h)

-- ---- whether all pass
pub all-at : (n : ℕ) (p : ℕ → Bool) → all_to n p ≡ true → (i : ℕ) → i < n → p i ≡ true
unfolding all_to
all-at zero p e i h = absurd (omega arith)
all-at (suc n) p e i h = let w = and_both (all_to n p) (p n) e in ⊎_elim (λ z. ap p z ∙ w.1) (λ l. all-at n p w.0 i l) (last_or h)

pub all-not : (n : ℕ) (p : ℕ → Bool) (i : ℕ) → i < n → p i ≡ false → all_to n p ≡ false
all-not n p i h f = ⊎_elim (λ t. absurd (differ (p i) (all-at n p t i h) f)) (λ e. e) (either (all_to n p))

pub all-next : (p : ℕ → Bool) (i : ℕ) (m x : Bool) → m ≡ all_to i p → x ≡ p i → (m && x) ≡ all_to (i + 1) p
unfolding all_to
all-next p i m x a b = rw (add-one i, a, b)

pub all_none : (p : ℕ → Bool) → true ≡ all_to 0 p
unfolding all_to
all_none p = refl

pub all_end : (p : ℕ → Bool) (i n : ℕ) (m : Bool) → m ≡ all_to i p → i ≤ n → n ≤ i → m ≡ all_to n p
all_end p i n m a h g = let e : i ≡ n = omega arith in a ∙ rw e

pub all_hold : (n : ℕ) (p : ℕ → Bool) → ((i : ℕ) → i < n → p i ≡ true) → all_to n p ≡ true
unfolding all_to
all_hold zero p e = refl
all_hold (suc n) p e = rw (all_hold n p (λ i h. e i (omega arith))) (e n (omega arith))

pub all_alike : (n : ℕ) (p q : ℕ → Bool) → ((i : ℕ) → i < n → p i ≡ q i) → all_to n p ≡ all_to n q
unfolding all_to
all_alike zero p q e = refl
all_alike (suc n) p q e = λ j. all_alike n p q (λ i h. e i (omega arith)) j && e n (omega arith) j

-- the first of them told apart
pub all_first : (n : ℕ) (p : ℕ → Bool) → all_to (suc n) p ≡ (p 0 && all_to n (λ i. p (suc i)))
unfolding all_to
all_first zero p = sym (and-true (p 0))
all_first (suc n) p = (λ j. all_first n p j && p (suc n)) ∙ and_assoc (p 0) (all_to n (λ i. p (suc i))) (p (suc n))

-- ---- the largest of those that pass
pub most-le : (k : ℕ) (p : ℕ → Bool) (f : ℕ → ℕ) (i : ℕ) → i < k → p i ≡ true → f i ≤ most_to k p f
unfolding most_to
most-le zero p f i h y = absurd (omega arith)
most-le (suc k) p f i h y =
    ⊎_elim
    (λ e. let z : p k ≡ true = ap p (sym e) ∙ y in rw (e, z) (omega arith))
    (λ l. omega (arith, most-le k p f i l y))
    (last_or h)

-- above 0 it is one of them
pub most-at : (k : ℕ) (p : ℕ → Bool) (f : ℕ → ℕ) → 0 < most_to k p f → (i : ℕ) × (i < k) × (p i ≡ true) × (f i ≡ most_to k p f)
unfolding most_to
most-at zero p f h = absurd (omega arith)
most-at (suc k) p f h =
    ⊎_elim
    (λ l. let w = most-at k p f (omega arith) in (w.0, omega (arith, w.1), w.2, omega (arith, w.3)))
    (λ g. let w = chosen (p k) (f k) (omega arith) in (k, omega arith, w.0, omega (arith, w.1)))
    (lt_or_le (cond (p k) (f k) 0) (most_to k p f))

-- ---- whether one passes
pub any_same : (k : ℕ) (p q : ℕ → Bool) → ((i : ℕ) → i < k → p i ≡ q i) → any_to k p ≡ any_to k q
unfolding any_to
any_same zero p q e = refl
any_same (suc k) p q e = rw (any_same k p q (λ i h. e i (omega arith)), e k (omega arith))

pub any_some : (k : ℕ) (p : ℕ → Bool) (i : ℕ) → i < k → p i ≡ true → any_to k p ≡ true
unfolding any_to
any_some zero p i h e = absurd (omega arith)
any_some (suc k) p i h e = ⊎_elim (λ q. let y : p k ≡ true = ap p (sym q) ∙ e in rw y (or-true (any_to k p))) (λ l. rw (any_some k p i l e)) (last_or h)

pub any_at : (k : ℕ) (p : ℕ → Bool) → any_to k p ≡ true → (i : ℕ) × (i < k) × (p i ≡ true)
unfolding any_to
any_at zero p e = absurd (false≢true e)
any_at (suc k) p e =
    ⊎_elim
    (λ l. let w = any_at k p l in (w.0, omega (arith, w.1), w.2))
    (λ r. (k, omega arith, r))
    (or_cases (any_to k p) (p k) e)

-- ---- one place more, as a loop goes on
pub most-next : (p : ℕ → Bool) (f : ℕ → ℕ) (i m x : ℕ) → m ≡ most_to i p f → x ≡ cond (p i) (f i) 0 → max m x ≡ most_to (i + 1) p f
unfolding most_to
most-next p f i m x a b = rw (add-one, a, b)

pub any_next : (p : ℕ → Bool) (i : ℕ) (m x : Bool) → m ≡ any_to i p → x ≡ p i → (m || x) ≡ any_to (i + 1) p
unfolding any_to
any_next p i m x a b = rw (add-one, a, b)
