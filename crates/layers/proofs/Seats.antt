-- Laws of a set of seats that share: how its seats are counted, and which the set of those that pass holds. Assumes nothing.
use Prim.Native.Nat.{ℕ, zero, suc, ◌+◌, ◌-◌, ◌%◌, ◌^◌, ◌≤◌, ◌<◌}
use native.Mathlib.Nat.{add-zero, add-suc, mod-eq_of_lt, mod-lt, lt_of_lt_of_le}
use native.Mathlib.Numerals.{add-one}
use native.Mathlib.Omega.{arith}
use mathlib.Core.Path.{◌≡◌, refl, sym, ◌∙◌}
use mathlib.Core.Logic.{◌⊎◌, inl, inr, ⊎_elim}
use mathlib.Core.Bool.{Bool, true, false, cond, ◌&&◌, or-true, or-false}
use lib.Bits.{bit_and, and_mask}
use lib.Dec.{ltb}
use lib.Pow.{pow_mono, pow_pos}
use borrow.Author.Tests.{lt-ltb, le-ltb, eq-eqb, ne_eqb}
use Rattle.seats.specs.Bits.{has, up_to, count_to, with_if, seats_where}
use Rattle.commons.proofs.Order.{lt_or_le, last_or}
use Rattle.seats.proofs.Laws.{none_above, has-with, with-below, ones-count}
use Rattle.commons.proofs.Bools.{chosen-le}

-- ---- counts
pub count-suc : (k s : ℕ) → count_to (suc k) s ≡ count_to k s + cond (has s k) 1 0
unfolding count_to
count-suc k s = omega arith

pub count_next : (s i k x : ℕ) → k ≡ count_to i s → x ≡ cond (has s i) 1 0 → k + x ≡ count_to (i + 1) s
count_next s i k x a b = rw (add-one, count-suc i s, a, b)

pub count-le : (k s : ℕ) → count_to k s ≤ k
unfolding count_to
count-le zero s = omega arith
count-le (suc k) s = omega (arith, count-le k s, chosen-le (has s k) 1)

pub count-up : (a d s : ℕ) → count_to a s ≤ count_to (a + d) s
count-up a zero s = rw add-zero (omega arith)
count-up a (suc d) s = rw add-suc (omega (arith, count-up a d s, count-suc (a + d) s))

pub count_most : (a b s : ℕ) → a ≤ b → count_to a s ≤ count_to b s
count_most a b s h = let e : a + (b - a) ≡ b = omega arith in rw e at (count-up a (b - a) s)

pub count-some : (k s i : ℕ) → i < k → has s i ≡ true → 0 < count_to k s
count-some k s i h e =
    let one : ◌≡◌ {A = ℕ} (cond (has s i) 1 0) 1 = rw e in
    omega (arith, count-suc i s, count_most (suc i) k s h)

-- the seats below k, counted as the ones of a masked number
pub count_masked : (k s : ℕ) → k ≤ 16 → count_to 16 (bit_and s (up_to k)) ≡ count_to k s
unfolding up_to
count_masked k s h =
    let m : cond (ltb k 16) (2 ^ k - 1) 0xffff ≡ 2 ^ k - 1 = mask (lt_or_le k 16) in
    rw (m, and_mask s k)
    (sym (ones-count 16 (s % 2 ^ k)) ∙ rw (mod-eq_of_lt (lt_of_lt_of_le (mod-lt s (pow_pos k)) (pow_mono h))) (ones-count k s))
  where
    mask : (k < 16) ⊎ (16 ≤ k) → cond (ltb k 16) (2 ^ k - 1) 0xffff ≡ 2 ^ k - 1
    mask (inl l) = rw (lt-ltb k 16 l)
    mask (inr g) = let e : k ≡ 16 = omega arith in rw e

-- ---- a seat put into a set where it passes
put-here : (s k : ℕ) (b : Bool) → k < 16 → has s k ≡ false → has (with_if b s k) k ≡ b
put-here s k true h e = rw (has-with s k k h h, eq-eqb k k refl) (or-true (has s k))
put-here s k false h e = e

put_other : (s k j : ℕ) (b : Bool) → k < 16 → j < k → has (with_if b s k) j ≡ has s j
put_other s k j true h l = rw (has-with s k j h (omega arith), ne_eqb k j (λ e. omega arith)) (or-false (has s j))
put_other s k j false h l = refl

put-below : (s k : ℕ) (b : Bool) → s < 2 ^ k → with_if b s k < 2 ^ suc k
put-below s k true l = with-below s k (suc k) (lt_of_lt_of_le l (pow_mono (omega arith))) (omega arith)
put-below s k false l = lt_of_lt_of_le l (pow_mono (omega arith))

-- ---- the set of those that pass
module _ (p : ℕ → Bool) where
  where_below : (k : ℕ) → seats_where k p < 2 ^ k
  unfolding seats_where
  where_below zero = omega arith
  where_below (suc k) = put-below (seats_where k p) k (p k) (where_below k)

  pub where_has : (k j : ℕ) → k ≤ 16 → has (seats_where k p) j ≡ (ltb j k && p j)
  unfolding seats_where
  where_has zero j h = rw (le-ltb j 0 (omega arith)) (none_above 0 0 j (omega arith) (omega arith))
  where_has (suc k) j h =
      ⊎_elim
      (λ l.
      rw (lt-ltb j (suc k) l)
      (⊎_elim
      (λ e. rw e (put-here (seats_where k p) k (p k) h (none_above (seats_where k p) k k (where_below k) (omega arith))))
      (λ b. put_other (seats_where k p) k j (p k) h b ∙ rw (where_has k j (omega arith), lt-ltb j k b))
      (last_or l)))
      (λ g. rw (le-ltb j (suc k) g) (none_above (seats_where (suc k) p) (suc k) j (where_below (suc k)) g))
      (lt_or_le j (suc k))

  pub where_next : (i s s' : ℕ) → s ≡ seats_where i p → s' ≡ with_if (p i) s i → s' ≡ seats_where (i + 1) p
  unfolding seats_where
  where_next i s s' a e = rw (add-one, e, a)
