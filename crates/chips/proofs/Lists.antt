-- Lists of whole amounts: what all of them being whole says of one, what their sum is at most, and that floats added one after the other lose nothing.
-- Assumes nothing.
use Rattle.std.proofs.Common.{◌≡◌, ℕ, zero, suc, ◌+◌, ◌-◌, ◌*◌, ◌^◌, ◌<◌, ◌≤◌, min, true, false, List, length, get_or, sym, refl, arith}
use lib.ListN.{get_or-eq_default}
use lib.Ieee.{Float, nan, binary32, add, le}
use Rattle.commons.specs.Folds.{sum_to}
use Rattle.chips.specs.Whole.{most, is_whole, chips_in, all_whole, sum_chips}
use Rattle.chips.proofs.Value.{Is}
use Rattle.chips.proofs.Add.{add-whole}
use Rattle.commons.proofs.Folds.{sum-most, sum-gap, all-at, all-not}
use Rattle.chips.proofs.Whole.{whole_is, chips-le}

pub whole-at : (l : List Float) (n : ℕ) → all_whole l n ≡ true → (i : ℕ) → i < n → is_whole (get_or l i nan) ≡ true
unfolding all_whole
whole-at l n w i h = all-at n (λ i. is_whole (get_or l i nan)) w i h

pub amount-at : (l : List Float) (n : ℕ) → all_whole l n ≡ true → (i : ℕ) → i < n → Is (get_or l i nan) (chips_in (get_or l i nan))
amount-at l n w i h = whole_is (get_or l i nan) (whole-at l n w i h)

pub sum-le : (l : List Float) (n : ℕ) → sum_chips l n ≤ n * most
unfolding sum_chips
sum-le l n = sum-most n (λ i. chips_in (get_or l i nan)) most (λ i h. chips-le (get_or l i nan))

-- ---- past the end of the list
none-whole : is_whole nan ≡ false
unfolding is_whole le
none-whole = refl

none-chips : chips_in nan ≡ 0
unfolding chips_in
none-chips = rw none-whole

pub too_long : (l : List Float) (n : ℕ) → length l < n → all_whole l n ≡ false
unfolding all_whole
too_long l n h = all-not n (λ i. is_whole (get_or l i nan)) (length l) h (rw (get_or-eq_default l nan {n = length l} (omega arith)) none-whole)

pub no_more : (l : List Float) (n : ℕ) → sum_chips l (min n (length l)) ≡ sum_chips l n
unfolding sum_chips
no_more l n =
    let m = min n (length l) in
    let e : min n (length l) + (n - length l) ≡ n = omega arith in
    sym (rw e at (sum-gap m (n - length l) (λ i. chips_in (get_or l i nan)) (λ i g h. rw (get_or-eq_default l nan {n = i} (omega arith)) none-chips)))

-- ---- floats added from the first on: t i is the sum of the first i
pub sum_floats : (n : ℕ) (t g : ℕ → Float) (k : ℕ → ℕ) → Is (t 0) 0 → ((i : ℕ) → i < n → t (suc i) ≡ add binary32 (t i) (g i)) → ((i : ℕ) → i < n → Is (g i) (k i)) → sum_to n k < 2 ^ 24 → Is (t n) (sum_to n k)
unfolding sum_to
sum_floats zero t g k z s h l = z
sum_floats (suc n) t g k z s h l = rw (s n (omega arith)) (add-whole (sum_floats n t g k z (λ i j. s i (omega arith)) (λ i j. h i (omega arith)) (omega arith)) (h n (omega arith)) l)

-- up to 16 whole amounts
pub sum_sixteen : (n : ℕ) (t g : ℕ → Float) → n ≤ 16 → Is (t 0) 0 → ((i : ℕ) → i < n → t (suc i) ≡ add binary32 (t i) (g i)) → ((i : ℕ) → i < n → is_whole (g i) ≡ true) → Is (t n) (sum_to n (λ i. chips_in (g i)))
sum_sixteen n t g few z s w = sum_floats n t g (λ i. chips_in (g i)) z s (λ i h. whole_is (g i) (w i h)) (omega (arith, sum-most n (λ i. chips_in (g i)) most (λ i h. chips-le (g i))))
