-- The test `is_whole` and the number of chips, against `Is`: a whole amount is the number that `chips_in` gives, and an amount that is a number up to 8,000 is whole.
-- And what the code's cast asks and gives between 0 and 8,000. Assumes nothing.
use Rattle.std.proofs.Common.{◌≡◌, ℕ, ◌+◌, ◌*◌, ◌/◌, ◌%◌, ◌^◌, ◌<◌, ◌≤◌, true, false, T, eqb, pos, sym, refl, ◌∙◌, ⊎_elim, mul_comm, div-add-mod', zero-mul, mul-one, arith, eqb→eq, lt→ltb, leb→le, pow_pos, eq-eqb, eqb-true, le-leb}
use native.Mathlib.Nat.{mul-mod_left, eq_of_mul-eq-mul_right, div-le_of_le-mul, zero-div}
use lib.Ieee.{Float, nan, inf, fin, binary32, up, down, lt, le, eq, of_int, to_unsigned, round}
use lib.Ieee.Back.{round_whole}
use lib.Ieee.Fits.{up_pos, down_pos, and_l}
use lib.Ieee.Positive.{num, den, den_pos}
use Rattle.commons.proofs.Bools.{either, and_both, told}
use Rattle.floats.specs.Helpers.{zerof}
use Rattle.chips.specs.Whole.{most, in_range, is_whole, chips_in}
use Rattle.commons.proofs.Order.{eqb_same}
use Rattle.chips.proofs.Value.{Plain, Is, own, of-value, unsigned, lt_val, le_val, eq_val, le-whole}
use Rattle.chips.proofs.Round.{inf-le}
use Rattle.chips.proofs.Add.{no_factor}
use Rattle.chips.proofs.Helpers.{zero_is}

-- a number as a float is that number
pub of_int_lem : (k : ℕ) → k ≤ 2 ^ 24 → Is (of_int binary32 (pos k)) k
unfolding of_int
of_int_lem k h = of-value (round binary32 false k 1) k 1 (pow_pos 0) (round_whole binary32 false k h)

-- an amount is one number
pub one_number : {x : Float} {a b : ℕ} → Is x a → Is x b → a ≡ b
one_number {x} {a} {b} p q = eq_of_mul-eq-mul_right (den x) (den_pos x) a b (sym p.size ∙ q.size)

most-is : Is (of_int binary32 (pos most)) most
most-is = of_int_lem most (omega arith)

-- ---- between 0 and 8,000
pub record Between (x : Float) : Type 0 where
  pub plain : Plain x
  pub size : num x ≤ most * den x

from_zero : (x u : Float) → Plain u → T (le zerof x) → T (le x u) → Plain x
unfolding le lt eq
from_zero nan u p h l = absurd h
from_zero (inf true) u p h l = absurd h
from_zero (inf false) u p h l = inf-le u p l
from_zero (fin false m e) u p h l = λ t. unsigned t
from_zero (fin true m e) u p h l =
    let z : 0 * 1 * down e ≡ m * up e * 1 = eqb→eq _ _ (and_l (eqb (0 * 1 * down e) (m * up e * 1)) _ h) in
    λ t. no_factor m (up e) (up_pos e) (sym (mul-one (m * up e)) ∙ sym z ∙ zero-mul (down e))

between : (x : Float) → T (le zerof x) → T (le x (of_int binary32 (pos most))) → Between x
between x h l =
    let p = from_zero x _ most-is.plain h l in
    record { plain = p; size = rw mul-one at (leb→le (num x * 1) (most * den x) (rw (le_val (own x p) most-is) at l)) }

pub in_range_lem : (x : Float) → in_range x ≡ true → Between x
in_range_lem x e = let t = and_both (le zerof x) (le x (of_int binary32 (pos most))) e in between x (told _ t.0) (told _ t.1)

above_minus_one : (x : Float) → Plain x → T (lt (fin true 1 (pos 0)) x)
unfolding lt
above_minus_one nan p = absurd p
above_minus_one (inf s) p = absurd p
above_minus_one (fin false m e) p = lt→ltb 0 (1 * down e + m * up e * 1) (omega (arith, down_pos e))
above_minus_one (fin true m e) p = lt→ltb (m * up e * 1) (1 * down e) (rw (p refl, zero-mul (up e)) (omega (arith, down_pos e)))

cut : (w : ℕ) (x : Float) → Plain x → num x / den x < 2 ^ w → to_unsigned w x ≡ num x / den x
unfolding to_unsigned
cut w nan p h = absurd p
cut w (inf s) p h = absurd p
cut w (fin false m e) p h = omega arith
cut w (fin true m e) p h = rw (p refl, zero-mul (up e)) (sym (zero-div (down e)))

huge_is : Is (fin false 1 (pos 64)) (2 ^ 64)
huge_is = record { plain = λ t. unsigned t; over = pow_pos 0; size = refl }

module _ (x : Float) (b : Between x) where
  pub part-le : num x / den x ≤ most
  part-le = div-le_of_le-mul (den x) (rw (mul_comm (den x) most) b.size)

  -- what the cast asks and gives
  pub castable : T (lt (fin true 1 (pos 0)) x) × T (lt x (fin false 1 (pos 64)))
  castable = (above_minus_one x b.plain, rw (lt_val (own x b.plain) huge_is) (lt→ltb (num x * 1) (2 ^ 64 * den x) (omega (arith, b.size, den_pos x))))

  pub cast_is : to_unsigned 64 x ≡ num x / den x
  cast_is = cut 64 x b.plain (omega (arith, part-le))

  -- no fraction
  pub whole-test : eq (of_int binary32 (pos (num x / den x))) x ≡ eqb (num x % den x) 0
  whole-test =
      eq_val (of_int_lem (num x / den x) (omega (arith, part-le))) (own x b.plain)
      ∙ eqb_same (num x / den x * den x) (num x * 1) (num x % den x) 0 (λ e. omega (arith, div-add-mod' (num x) (den x))) (λ e. omega (arith, div-add-mod' (num x) (den x)))

-- ---- whole amounts
pub whole-between : (x : Float) → is_whole x ≡ true → Between x
unfolding is_whole
whole-between x w = in_range_lem x (and_both (in_range x) (eqb (num x % den x) 0) w).0

pub whole_is : (x : Float) → is_whole x ≡ true → Is x (chips_in x)
unfolding is_whole chips_in
whole_is x w =
    let z : num x % den x ≡ 0 = eqb-true _ _ (and_both (in_range x) (eqb (num x % den x) 0) w).1 in
    rw w (record { plain = (whole-between x w).plain; over = pow_pos 0; size = omega (arith, div-add-mod' (num x) (den x)) })

pub chips-le : (x : Float) → chips_in x ≤ most
unfolding chips_in
chips-le x = ⊎_elim (λ w. rw w (part-le x (whole-between x w))) (λ f. rw f (omega arith)) (either (is_whole x))

pub is_whole_lem : (x : Float) (k : ℕ) → Is x k → k ≤ most → is_whole x ≡ true
unfolding is_whole
is_whole_lem x k p h =
    let n : num x ≡ k * den x = sym (mul-one (num x)) ∙ p.size in
    rw (le-whole zero_is p, le-leb 0 k (omega arith), le-whole p most-is, le-leb k most h) (eq-eqb (num x % den x) 0 (rw n (mul-mod_left k (den x))))

pub chips_are : (x : Float) (k : ℕ) → Is x k → k ≤ most → chips_in x ≡ k
chips_are x k p h = one_number (whole_is x (is_whole_lem x k p h)) p

-- ---- the code's two answers, by its first test
pub tested : (x : Float) (k : ℕ) → in_range x ≡ true → k ≡ to_unsigned 64 x → eq (of_int binary32 (pos k)) x ≡ is_whole x
unfolding is_whole
tested x k e c = let b = in_range_lem x e in rw (e, c, cast_is x b) (whole-test x b)

pub untested : (x : Float) → in_range x ≡ false → false ≡ is_whole x
unfolding is_whole
untested x e = rw e
