-- Laws of the amounts that are shown. Outside what the code converts (`low`, `high`) none is whole; whole chips to 2 ^ 24 are shown as
-- their number, and nothing else is. Assumes nothing.
use Rattle.std.proofs.Common.{◌≡◌, ℕ, ◌+◌, ◌-◌, ◌*◌, ◌/◌, ◌^◌, ◌≤◌, min, Bool, true, false, cond, ◌&&◌, T, leb, pos, sym, refl, subst, le-div_iff_mul-le, arith, ltb-false, eq-eqb, ne_eqb, le-leb, leb-true}
use borrow.Author.Tests.{lt-leb}
use lib.Ieee.{Float, nan, inf, fin, binary32, up, down, lt, eq, to_unsigned, of_int, in_float, round, units, odd, size, climb, span}
use lib.Ieee.Fits.{down_pos}
use lib.Ieee.Exact.{HasValue}
use lib.Ieee.Back.{round_whole, unsigned_back}
use Rattle.commons.proofs.Bools.{differ}
use Rattle.std.specs.Prelude.{Some, None}
use Rattle.console.specs.Opening.{chips_of}
use Rattle.console.specs.Shown.{whole_part, amount_of}

zero_float : chips_of 0 ≡ fin false 0 (pos 0)
unfolding of_int round units odd size climb span
zero_float = refl

no_eq : (x : Float) → eq (chips_of (whole_part x)) x ≡ false → amount_of x ≡ None
unfolding amount_of
no_eq x e = simp e (last (leb (whole_part x) (2 ^ 24)))
  where
    last : (t : Bool) → cond (t && false) (Some (whole_part x)) None ≡ None
    last true = refl
    last false = refl

pub low : (x : Float) → lt (fin true 1 (pos 0)) x ≡ false → amount_of x ≡ None
unfolding lt eq to_unsigned
low nan h = no_eq nan (rw zero_float refl)
low (inf true) h = no_eq (inf true) (rw zero_float refl)
low (inf false) h = absurd (differ true refl h)
low (fin false m e) h = absurd (omega (arith, ltb-false 0 (1 * up (pos 0) * down e + m * up e * down (pos 0)) h, down_pos e))
low (fin true m e) h =
    no_eq (fin true m e)
    (rw zero_float (simp (ne_eqb (0 * up (pos 0) * down e) (m * up e * down (pos 0)) (λ z. omega (arith, ltb-false (m * up e * down (pos 0)) (1 * up (pos 0) * down e) h, down_pos e)))))

pub high : (x : Float) → lt x (fin false 1 (pos 64)) ≡ false → amount_of x ≡ None
unfolding lt eq to_unsigned amount_of
high nan h = no_eq nan (rw zero_float refl)
high (inf true) h = absurd (differ true refl h)
high (inf false) h = refl
high (fin true m e) h = absurd (omega (arith, ltb-false 0 (m * up e * down (pos 64) + 1 * up (pos 64) * down e) h, down_pos e))
high (fin false m e) h =
    let l : 2 ^ 64 * down e ≤ m * up e = omega (arith, ltb-false (m * up e * down (pos 64)) (1 * up (pos 64) * down e) h) in
    let q : 2 ^ 64 ≤ m * up e / down e = (le-div_iff_mul-le (down_pos e)).1 l in
    simp (lt-leb (min (m * up e / down e) (2 ^ 64 - 1)) (2 ^ 24) (omega arith))

eq_self : (x : Float) (n : ℕ) → HasValue x false n 1 → eq x x ≡ true
unfolding eq
eq_self nan n v = absurd v
eq_self (inf s) n v = absurd v
eq_self (fin true m e) n v = simp (eq-eqb (m * up e * down e) (m * up e * down e) refl)
eq_self (fin false m e) n v = simp (eq-eqb (m * up e * down e) (m * up e * down e) refl)

in_float_of : (n : ℕ) → n ≤ 2 ^ 24 → T (in_float binary32 (pos n))
unfolding in_float
in_float_of n h = subst T (sym (le-leb n (2 ^ 24) h)) tt

has_value : (n : ℕ) → n ≤ 2 ^ 24 → HasValue (chips_of n) false n 1
unfolding of_int
has_value n h = round_whole binary32 false n h

-- a whole number of chips up to 2 ^ 24 is shown as that number
pub shows-chips : (n : ℕ) → n ≤ 2 ^ 24 → amount_of (chips_of n) ≡ Some n
unfolding amount_of
shows-chips n h =
    let b : whole_part (chips_of n) ≡ n = (unsigned_back binary32 64 n (in_float_of n h) (omega arith)).1 in
    simp (b, le-leb n (2 ^ 24) h, eq_self (chips_of n) n (has_value n h))

-- and only an amount that equals the number is shown as it
pub shows-only : (x : Float) (n : ℕ) → amount_of x ≡ Some n → (n ≤ 2 ^ 24) × (eq (chips_of n) x ≡ true)
unfolding amount_of
shows-only x n e = at (leb (whole_part x) (2 ^ 24)) (eq (chips_of (whole_part x)) x) refl refl e
  where
    at : (t u : Bool) → leb (whole_part x) (2 ^ 24) ≡ t → eq (chips_of (whole_part x)) x ≡ u
        → cond (t && u) (Some (whole_part x)) None ≡ Some n → (n ≤ 2 ^ 24) × (eq (chips_of n) x ≡ true)
    at true true p q e =
        let i : whole_part x ≡ n = cc in
        (rw i at (leb-true (whole_part x) (2 ^ 24) p), rw i at q)
    at true false p q e = absurd (let z : ◌≡◌ {A = ℕ} 0 1 = cc in omega arith)
    at false u p q e = absurd (let z : ◌≡◌ {A = ℕ} 0 1 = cc in omega arith)
