-- Laws of a set of seats: what `has` says after each step, and which sets stay below 2 ^ n, that is, hold no seat from n on. Assumes nothing.
use Prim.Native.Nat.{ℕ, zero, suc, ◌+◌, ◌-◌, ◌*◌, ◌/◌, ◌%◌, ◌^◌, ◌<◌, ◌≤◌}
use native.Mathlib.Nat.{div-eq_of_lt, mod-lt, lt_of_lt_of_le, lt_of_le_of_lt, one-mul, mod-one}
use mathlib.Core.Logic.{⊎_elim, ◌⊎◌, inl, inr}
use native.Mathlib.Numerals.{one-add}
use native.Mathlib.Omega.{arith}
use mathlib.Core.Path.{◌≡◌, refl, sym, ap, ◌∙◌}
use mathlib.Core.Bool.{Bool, true, false, not, cond, ◌&&◌, ◌||◌}
use lib.Dec.{eqb, ltb}
use lib.Bits.{bit_and, bit_or, or_shr, or_mod, and_shr, and_mod, or_lt, and_le_l}
use lib.Pow.{pow_mono, pow-lt, pow_pos, shl_exact, mod-pow-add}
use lib.Count.{ones, ones_cat}
use borrow.Author.Tests.{lt-ltb}
use Rattle.commons.specs.Folds.{all_to}
use Rattle.commons.proofs.First.{Passed}
use Rattle.commons.proofs.Folds.{all-at}
use Rattle.commons.proofs.Order.{lt_or_le}
use Rattle.seats.specs.Bits.{has, up_to, count_to, with, without}

-- ---- one bit shifted
pub shifted : (i w : ℕ) → i < w → 1 * 2 ^ i % 2 ^ w ≡ 2 ^ i
shifted i w h = shl_exact 1 i w (omega arith) (omega arith) ∙ one-mul (2 ^ i)

-- ---- the seats of a set
pub none_above : (s n i : ℕ) → s < 2 ^ n → n ≤ i → has s i ≡ false
unfolding has
none_above s n i l h = simp (div-eq_of_lt (lt_of_lt_of_le l (pow_mono h)))

-- a set of 16 bits of which no seat from d on below i is a member, i past 15, has none from d on
pub none_from : (s d i : ℕ) → s < 2 ^ 16 → 16 ≤ i → Passed (has s) d i → (j : ℕ) → d ≤ j → j < d + 16 → has s j ≡ false
none_from s d i l h all j m k = ⊎_elim (λ a. all j (omega arith) m) (λ b. none_above s 16 j l b) (lt_or_le j 16)

-- a bit is 0 or 1
bit-cases : (a : ℕ) → a < 2 → (a ≡ 0) ⊎ (a ≡ 1)
bit-cases zero h = inl refl
bit-cases (suc zero) h = inr refl
bit-cases (suc (suc a)) h = absurd (omega arith)

or_bits : (a b : ℕ) → a < 2 → b < 2 → eqb (bit_or a b) 1 ≡ (eqb a 1 || eqb b 1)
or_bits zero zero h k = refl
or_bits zero (suc zero) h k = refl
or_bits (suc zero) zero h k = refl
or_bits (suc zero) (suc zero) h k = refl
or_bits (suc (suc a)) b h k = absurd (omega arith)
or_bits zero (suc (suc b)) h k = absurd (omega arith)
or_bits (suc zero) (suc (suc b)) h k = absurd (omega arith)

and-bits : (a b : ℕ) → a < 2 → b < 2 → eqb (bit_and a b) 1 ≡ (eqb a 1 && eqb b 1)
and-bits zero zero h k = refl
and-bits zero (suc zero) h k = refl
and-bits (suc zero) zero h k = refl
and-bits (suc zero) (suc zero) h k = refl
and-bits (suc (suc a)) b h k = absurd (omega arith)
and-bits zero (suc (suc b)) h k = absurd (omega arith)
and-bits (suc zero) (suc (suc b)) h k = absurd (omega arith)

pub has_or : (s t j : ℕ) → has (bit_or s t) j ≡ (has s j || has t j)
unfolding has
has_or s t j = rw (or_shr s t j, or_mod (s / 2 ^ j) (t / 2 ^ j) 1) (or_bits (s / 2 ^ j % 2) (t / 2 ^ j % 2) (mod-lt (s / 2 ^ j) (omega arith)) (mod-lt (t / 2 ^ j) (omega arith)))

pub has-and : (s t j : ℕ) → has (bit_and s t) j ≡ (has s j && has t j)
unfolding has
has-and s t j = rw (and_shr s t j, and_mod (s / 2 ^ j) (t / 2 ^ j) 1) (and-bits (s / 2 ^ j % 2) (t / 2 ^ j % 2) (mod-lt (s / 2 ^ j) (omega arith)) (mod-lt (t / 2 ^ j) (omega arith)))

-- the one-seat set, its complement and the first n seats, each of 16 by 16 places computed
same : Bool → Bool → Bool
same true b = b
same false b = not b

same-is : (a b : Bool) → same a b ≡ true → a ≡ b
unfolding same
same-is true true t = refl
same-is false false t = refl
same-is false true t = t
same-is true false t = sym t

one-seat : (i j : ℕ) → i < 16 → j < 16 → has (2 ^ i) j ≡ eqb i j
unfolding has all_to same
one-seat i j h k = same-is _ _ (all-at 16 (λ (j : ℕ). same (has (2 ^ i) j) (eqb i j)) (all-at 16 (λ (i : ℕ). all_to 16 (λ (j : ℕ). same (has (2 ^ i) j) (eqb i j))) refl i h) j k)

all_but : (i j : ℕ) → i < 16 → j < 16 → has (0xffff - 2 ^ i) j ≡ not (eqb i j)
unfolding has all_to same
all_but i j h k = same-is _ _ (all-at 16 (λ (j : ℕ). same (has (0xffff - 2 ^ i) j) (not (eqb i j))) (all-at 16 (λ (i : ℕ). all_to 16 (λ (j : ℕ). same (has (0xffff - 2 ^ i) j) (not (eqb i j)))) refl i h) j k)

pub has-up_to : (n j : ℕ) → n ≤ 16 → j < 16 → has (up_to n) j ≡ ltb j n
unfolding has all_to same up_to
has-up_to n j h k = same-is _ _ (all-at 16 (λ (j : ℕ). same (has (up_to n) j) (ltb j n)) (all-at 17 (λ (n : ℕ). all_to 16 (λ (j : ℕ). same (has (up_to n) j) (ltb j n))) refl n (omega arith)) j k)

pub has-with : (s i j : ℕ) → i < 16 → j < 16 → has (with s i) j ≡ (has s j || eqb i j)
unfolding with
has-with s i j h k = simp (lt-ltb i 16 h, has_or s (2 ^ i) j, one-seat i j h k)

pub has-without : (s i j : ℕ) → i < 16 → j < 16 → has (without s i) j ≡ (has s j && not (eqb i j))
unfolding without
has-without s i j h k = simp (lt-ltb i 16 h, has-and s (0xffff - 2 ^ i) j, all_but i j h k)

-- ---- no seat from n on
cond_below : (b : Bool) (x y n : ℕ) → x < 2 ^ n → y < 2 ^ n → cond b x y < 2 ^ n
cond_below true x y n h k = h
cond_below false x y n h k = k

pub with-below : (s i n : ℕ) → s < 2 ^ n → i < n → with s i < 2 ^ n
unfolding with
with-below s i n l h = cond_below (ltb i 16) (bit_or s (2 ^ i)) s n (or_lt n s (2 ^ i) l (pow-lt h)) l

pub without-below : (s i n : ℕ) → s < 2 ^ n → without s i < 2 ^ n
unfolding without
without-below s i n l = cond_below (ltb i 16) (bit_and s (0xffff - 2 ^ i)) s n (lt_of_le_of_lt (and_le_l s (0xffff - 2 ^ i)) l) l

-- ---- the count
one_bit : (b : ℕ) → b < 2 → ones b ≡ cond (eqb b 1) 1 0
unfolding ones
one_bit zero h = refl
one_bit (suc zero) h = refl
one_bit (suc (suc b)) h = absurd (omega arith)

pub ones-count : (k s : ℕ) → ones (s % 2 ^ k) ≡ count_to k s
unfolding count_to has ones
ones-count zero s = ap ones (mod-one s)
ones-count (suc k) s =
    let cut : s % 2 ^ suc k ≡ (s / 2 ^ k % 2) * 2 ^ k + s % 2 ^ k = rw (← one-add k) (mod-pow-add s 1 k) in
    ap ones cut
    ∙ ones_cat k (s / 2 ^ k % 2) (s % 2 ^ k) (mod-lt s (pow_pos k))
    ∙ rw (one_bit (s / 2 ^ k % 2) (mod-lt (s / 2 ^ k) (omega arith)), ones-count k s)
