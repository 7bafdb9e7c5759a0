-- What a set of seats shares adds up to the amount: equal parts, and of the odd chips each is given once, going round.
-- Assumes nothing.
use Prim.Native.Nat.{ℕ, zero, suc, ◌+◌, ◌-◌, ◌*◌, ◌/◌, ◌%◌, ◌≤◌, ◌<◌, min}
use native.Mathlib.Nat.{add-zero, add-suc, zero-mul, add-mul, one-mul, div-add-mod', mod-lt, mul_comm}
use native.Mathlib.Omega.{arith}
use mathlib.Core.Path.{◌≡◌, refl, sym, ◌∙◌}
use mathlib.Core.Logic.{⊎_elim}
use mathlib.Core.Bool.{Bool, true, false, cond}
use lib.Dec.{leb, ltb}
use borrow.Author.Tests.{lt-ltb, le-ltb, le-leb, lt-leb}
use Rattle.seats.specs.Bits.{has, count_to}
use Rattle.commons.proofs.Order.{lt_or_le}
use Rattle.commons.specs.Folds.{sum_to}
use Rattle.commons.proofs.Folds.{sum_same, sum-add}
use Rattle.layers.specs.Sharing.{ahead, share_of}
use Rattle.commons.proofs.Bools.{chosen-le}
use Rattle.layers.proofs.Seats.{count-suc, count-up, count_most}

-- one more of the set, with y ahead of it, takes an odd chip while one of the r is left
odd_step : (b : Bool) (y r : ℕ) → min y r + cond b (cond (ltb y r) 1 0) 0 ≡ min (y + cond b 1 0) r
odd_step false y r = omega arith
odd_step true y r = ⊎_elim (λ l. rw (lt-ltb y r l) (omega arith)) (λ g. rw (le-ltb y r g) (omega arith)) (lt_or_le y r)

module _ (n first s : ℕ) where
  -- seat i's odd chip, of r
  abbrev odd : ℕ → ℕ → ℕ
  odd r i = cond (has s i) (cond (ltb (ahead n first s i) r) 1 0) 0

  -- how many of the set stand from `first` on
  abbrev rest : ℕ
  rest = count_to n s - count_to first s

  low : (m : ℕ) → m < first → ahead n first s m ≡ rest + count_to m s
  unfolding ahead
  low m h = rw (lt-leb first m h)

  high : (m : ℕ) → first ≤ m → ahead n first s m ≡ count_to m s - count_to first s
  unfolding ahead
  high m h = rw (le-leb first m h)

  -- the odd chips of the seats below `first`, and of those from it on
  odd_low : (r m : ℕ) → m ≤ first → sum_to m (odd r) + min rest r ≡ min (rest + count_to m s) r
  unfolding sum_to count_to
  odd_low r zero h = omega arith
  odd_low r (suc m) h = rw (low m h) (omega (arith, odd_low r m (omega arith), odd_step (has s m) (rest + count_to m s) r))

  odd-high : (r d : ℕ) → sum_to (first + d) (odd r) ≡ sum_to first (odd r) + min (count_to (first + d) s - count_to first s) r
  unfolding sum_to
  odd-high r zero = rw add-zero (omega arith)
  odd-high r (suc d) =
      rw (add-suc, high (first + d) (omega arith))
      (omega (arith, odd-high r d, odd_step (has s (first + d)) (count_to (first + d) s - count_to first s) r, count-suc (first + d) s, count-up first d s))

  -- all round, each of the odd chips is given
  odd-all : (r : ℕ) → first ≤ n → r ≤ count_to n s → sum_to n (odd r) ≡ r
  odd-all r h l =
      let e : first + (n - first) ≡ n = omega arith in
      let a : sum_to n (odd r) ≡ sum_to first (odd r) + min rest r = rw e at (odd-high r (n - first)) in
      omega (arith, odd_low r first (omega arith), count_most first n s h)

equal-parts : (k s q : ℕ) → sum_to k (λ i. cond (has s i) q 0) ≡ count_to k s * q
unfolding sum_to count_to
equal-parts zero s q = sym (zero-mul q)
equal-parts (suc k) s q = rw (add-mul (cond (has s k) 1 0) (count_to k s) q) (omega (arith, equal-parts k s q, part (has s k)))
  where
    part : (b : Bool) → cond b q 0 ≡ cond b 1 0 * q
    part true = sym (one-mul q)
    part false = sym (zero-mul q)

module _ (n first s amount : ℕ) where
  abbrev equal : ℕ
  equal = amount / count_to n s

  abbrev left : ℕ
  left = amount % count_to n s

  -- all of it is shared
  pub shares-add : first ≤ n → 0 < count_to n s → sum_to n (share_of n first s amount) ≡ amount
  unfolding share_of
  shares-add h w =
      sum_same n (share_of n first s amount) (λ i. cond (has s i) equal 0 + odd n first s left i) (λ i l. split (has s i) equal (cond (ltb (ahead n first s i) left) 1 0))
      ∙ sum-add n (λ i. cond (has s i) equal 0) (odd n first s left)
      ∙ rw (equal-parts n s equal, odd-all n first s left h (omega (arith, mod-lt amount w)), mul_comm (count_to n s) equal)
      (div-add-mod' amount (count_to n s))
    where
      split : (b : Bool) (x y : ℕ) → cond b (x + y) 0 ≡ cond b x 0 + cond b y 0
      split true x y = refl
      split false x y = refl

  -- who is not in the set gets nothing
  pub share-none : (i : ℕ) → has s i ≡ false → share_of n first s amount i ≡ 0
  unfolding share_of
  share-none i e = rw e

  -- two of the set get the same but for one chip, and the one who comes first gets no less
  pub share_near : (i j : ℕ) → has s i ≡ true → has s j ≡ true → share_of n first s amount i ≤ share_of n first s amount j + 1
  unfolding share_of
  share_near i j y z = rw (y, z) (omega (arith, chosen-le (ltb (ahead n first s i) left) 1))

  pub share_order : (i j : ℕ) → has s i ≡ true → has s j ≡ true → ahead n first s i ≤ ahead n first s j → share_of n first s amount j ≤ share_of n first s amount i
  unfolding share_of
  share_order i j y z l = rw (y, z) (omega (arith, more (ahead n first s i) (ahead n first s j) left l))
    where
      more : (a b r : ℕ) → a ≤ b → cond (ltb b r) 1 0 ≤ cond (ltb a r) 1 0
      more a b r h = ⊎_elim (λ k. rw (lt-ltb a r (omega arith), lt-ltb b r k) (omega arith)) (λ g. rw (le-ltb b r g) (omega arith)) (lt_or_le b r)

  -- what one of the set gets, with w in the set and b ahead of it
  pub share-by : (i w b : ℕ) → has s i ≡ true → count_to n s ≡ w → ahead n first s i ≡ b → share_of n first s amount i ≡ amount / w + cond (ltb b (amount % w)) 1 0
  unfolding share_of
  share-by i w b y all before = λ j. cond (y j) (amount / all j + cond (ltb (before j) (amount % all j)) 1 0) 0

  -- what the code makes of its counts is a share: w in the set, f of them below `first`, k below i
  pub share-made : (i w f k : ℕ) → w ≡ count_to n s → f ≡ count_to first s → k ≡ count_to i s
      → cond (has s i) (amount / w + cond (ltb (cond (leb first i) (k - f) (w - f + k)) (amount % w)) 1 0) 0 ≡ share_of n first s amount i
  unfolding share_of ahead
  share-made i w f k a b c = rw (a, b, c)
