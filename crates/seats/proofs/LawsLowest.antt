-- The lowest digit of a number that is set, of any width: below it none is, so the first seat of a set from a place on is found by counting zeros.
-- Assumes nothing.
use Prim.Native.Nat.{ℕ, zero, suc, ◌+◌, ◌-◌, ◌*◌, ◌/◌, ◌%◌, ◌^◌, ◌<◌, ◌≤◌}
use native.Mathlib.Nat.{div-one, mod-lt, mul-mod_left}
use native.Mathlib.Numerals.{one-add}
use native.Mathlib.Omega.{arith}
use mathlib.Core.Path.{◌≡◌, refl, sym, ap, ◌∙◌}
use mathlib.Core.Bool.{true, false}
use mathlib.Core.Logic.{⊎_elim}
use lib.Dec.{eqb}
use lib.Count.{count_trailing_zeros, under}
use lib.Pow.{shr-shr, shl-shr, field, mod-mod-pow}
use Rattle.commons.proofs.First.{found_at, none_is}
use Rattle.commons.proofs.Order.{lt_or_le}
use Rattle.seats.specs.Bits.{has, next_from}
use Rattle.seats.proofs.Laws.{none_above}

-- ---- the digits of a number that is shifted
pub has-shifted : (a on j : ℕ) → has (a / 2 ^ on) j ≡ has a (on + j)
unfolding has
has-shifted a on j = rw (shr-shr a on j)

-- and of its last n digits
pub has_rest : (a n j : ℕ) → j < n → has (a % 2 ^ n) j ≡ has a j
unfolding has
has_rest a n j h =
    let e : n ≡ (n - j) + j = omega arith in
    let one : n - j ≡ (n - j - 1) + 1 = omega arith in
    let cut : a % 2 ^ n / 2 ^ j ≡ a / 2 ^ j % 2 ^ (n - j - 1 + 1) =
    ap (λ (k : ℕ). a % 2 ^ k / 2 ^ j) e ∙ field a (n - j) j ∙ ap (λ (k : ℕ). a / 2 ^ j % 2 ^ k) one in
    rw (cut, mod-mod-pow (a / 2 ^ j) (n - j - 1) 1)

-- of one that is shifted up: its own from there on, and none below
pub has-raised : (a k j : ℕ) → has (a * 2 ^ k) (k + j) ≡ has a j
has-raised a k j = sym (has-shifted (a * 2 ^ k) k j) ∙ ap (λ (b : ℕ). has b j) (shl-shr a k)

pub has-below : (a k j : ℕ) → j < k → has (a * 2 ^ k) j ≡ false
has-below a k j h = sym (has_rest (a * 2 ^ k) k j h) ∙ ap (λ (b : ℕ). has b j) (mul-mod_left a (2 ^ k)) ∙ none_above 0 0 j (omega arith) (omega arith)

has-half : (a j : ℕ) → has a (suc j) ≡ has (a / 2) j
has-half a j = sym (has-shifted a 1 j ∙ ap (has a) (one-add j))

has_first : (a : ℕ) → has a 0 ≡ eqb (a % 2) 1
unfolding has
has_first a = rw (div-one a)

-- ---- below the lowest of k digits none is set
clear-under : (a j d t : ℕ) → a % 2 ≡ d → ((i : ℕ) → i < t → has (a / 2) i ≡ false) → j < under d t → has a j ≡ false
clear-under a j (suc d) t e on h = absurd (omega arith)
clear-under a zero zero t e on h = has_first a ∙ rw e
clear-under a (suc j) zero t e on h = has-half a j ∙ on j (omega arith)

pub below_lowest : (k a j : ℕ) → j < count_trailing_zeros k a → has a j ≡ false
unfolding count_trailing_zeros
below_lowest zero a j h = absurd (omega arith)
below_lowest (suc k) a j h = clear-under a j (a % 2) (count_trailing_zeros k (a / 2)) refl (below_lowest k (a / 2)) h

-- ---- and it is
set-under : (a d t k : ℕ) → a % 2 ≡ d → (t < k → has (a / 2) t ≡ true) → under d t < suc k → has a (under d t) ≡ true
set-under a (suc zero) t k e on h = has_first a ∙ rw e
set-under a (suc (suc d)) t k e on h = absurd (omega (arith, mod-lt a {m = 2} (omega arith), e))
set-under a zero t k e on h = has-half a t ∙ on (omega arith)

pub at_lowest : (k a : ℕ) → count_trailing_zeros k a < k → has a (count_trailing_zeros k a) ≡ true
unfolding count_trailing_zeros
at_lowest zero a h = absurd (omega arith)
at_lowest (suc k) a h = set-under a (a % 2) (count_trailing_zeros k (a / 2)) k refl (at_lowest k (a / 2)) h

-- ---- the first seat from a place on; z counts the zeros from there
module _ (s i z : ℕ) (e : z ≡ count_trailing_zeros 16 (s / 2 ^ i)) where
  over : (j : ℕ) → i ≤ j → j < i + z → has s j ≡ false
  over j l h =
      let place : i + (j - i) ≡ j = omega arith in
      ap (has s) (sym place) ∙ sym (has-shifted s i (j - i)) ∙ below_lowest 16 (s / 2 ^ i) (j - i) (omega (arith, e))

  pub next-is : i + z < 16 → next_from s i ≡ i + z
  unfolding next_from
  next-is h =
      let there : has s (i + z) ≡ true = sym (has-shifted s i z) ∙ rw e (at_lowest 16 (s / 2 ^ i) (omega (arith, e))) in
      found_at (has s) 16 i 16 (i + z) (λ j k l. over j l k) (omega arith) (omega arith) there

  pub next-none : s < 2 ^ 16 → 16 ≤ i + z → next_from s i ≡ 16
  unfolding next_from
  next-none l h = none_is (has s) 16 i 16 (λ j m k. ⊎_elim (λ a. over j m (omega arith)) (λ b. none_above s 16 j l b) (lt_or_le j 16))

-- from 16 on there is none
pub next_outside : (s i : ℕ) → s < 2 ^ 16 → 16 ≤ i → next_from s i ≡ 16
unfolding next_from
next_outside s i l h = none_is (has s) 16 i 16 (λ j m k. none_above s 16 j l (omega arith))
