-- Sums and differences of floats that are finite and not negative are the exact ones rounded once, so of whole numbers below 2 ^ 24 they lose nothing.
-- Assumes nothing.
use Rattle.std.proofs.Common.{◌≡◌, ℕ, ◌+◌, ◌-◌, ◌*◌, ◌^◌, ◌<◌, ◌≤◌, Bool, true, false, not, ◌⊎◌, sym, refl, ◌∙◌, subst, inl, inr, ⊎_elim, zero-le, mul-le-mul_right, mul_assoc, mul_comm, add-mul, eq-zero-or-pos, mul-lt-mul_of_pos_right, mul-pos, zero-mul, mul-one, mul_right_comm, arith, pow_pos, le-ltb, lt-ltb}
use native.Mathlib.Nat.{mul-sub}
use lib.Ieee.{Float, nan, inf, fin, binary32, up, down, round, sum, add, sub, neg}
use lib.Ieee.Fits.{up_pos, down_pos}
use lib.Ieee.Exact.{HasValue}
use lib.Ieee.Positive.{num, den, den_pos}
use Rattle.commons.proofs.Order.{lt_or_le}
use Rattle.chips.proofs.Value.{Plain, Val, Is, of-value, both-plain, unsigned}
use Rattle.chips.proofs.Round.{exact}

-- z is N / D rounded, or a zero of either sign where N is 0
abbrev pub Rounded : Float → ℕ → ℕ → Type 0
Rounded z N D = (z ≡ round binary32 false N D) ⊎ (Is z 0 × (N ≡ 0))

pub no_factor : (m u : ℕ) → 0 < u → m * u ≡ 0 → m ≡ 0
no_factor m u U e = ⊎_elim (λ z. z) (λ (h : 0 < m). omega (arith, mul-pos h U)) (eq-zero-or-pos m)

is_zero : (x : Float) → HasValue x true 0 1 → Is x 0
is_zero nan h = absurd h
is_zero (inf s) h = absurd h
is_zero (fin s m e) h = record { plain = λ t. no_factor m (up e) (up_pos e) (sym (mul-one (m * up e)) ∙ h.1 ∙ zero-mul (down e)); over = pow_pos 0; size = h.1 }

pub minus_zero : (N D : ℕ) → 0 < D → N ≡ 0 → Is (round binary32 true N D) 0
minus_zero N D P z = is_zero _ (exact binary32 true N D 0 0 P (pow_pos 24) zero-le (rw (z, zero-mul D)))

-- ---- magnitudes a and b over c, with a sign only at 0
module _ (a b c : ℕ) (C : 0 < c) where
  nothing : a + b ≡ 0 → Rounded (round binary32 true (a + b) c) (a + b) c
  nothing z = inr (minus_zero (a + b) c C z, z)

  sum-up : (s t : Bool) → (s ≡ true → a ≡ 0) → (t ≡ true → b ≡ 0) → Rounded (sum binary32 s a t b c) (a + b) c
  unfolding sum
  sum-up false false p q = inl refl
  sum-up false true p q = let z = q refl in let e : a - b ≡ a + b = omega arith in inl (rw (le-ltb a b (omega arith), e))
  sum-up true false p q =
      let z : a ≡ 0 = p refl in
      let h : a ≤ b = omega arith in
      ⊎_elim (λ l. let e : b - a ≡ a + b = omega arith in inl (rw (lt-ltb a b l, e))) (λ g. let e : a - b ≡ a + b = omega arith in inl (rw (le-ltb a b g, le-ltb b a h, e))) (lt_or_le a b)
  sum-up true true p q = nothing (omega (arith, p refl, q refl))

  sum-down : (s t : Bool) → (s ≡ true → a ≡ 0) → (t ≡ true → b ≡ 0) → b ≤ a → Rounded (sum binary32 s a (not t) b c) (a - b) c
  unfolding sum
  sum-down false false p q h = inl (rw (le-ltb a b h))
  sum-down false true p q h = let z = q refl in let e : a + b ≡ a - b = omega arith in inl (rw e)
  sum-down true false p q h = let z = p refl in let e : a + b ≡ a - b = omega arith in subst (λ (n : ℕ). Rounded (round binary32 true (a + b) c) n c) e (nothing (omega arith))
  sum-down true true p q h = let z = p refl in let e : a + b ≡ a - b = omega arith in subst (λ (n : ℕ). Rounded (sum binary32 true a false b c) n c) e (sum-up true false p unsigned)

  sum_below : (s t : Bool) → (s ≡ true → a ≡ 0) → (t ≡ true → b ≡ 0) → a < b → sum binary32 s a (not t) b c ≡ round binary32 true (b - a) c
  unfolding sum
  sum_below false false p q h = rw (lt-ltb a b h)
  sum_below false true p q h = absurd (omega (arith, q refl))
  sum_below true false p q h = let z = p refl in let e : a + b ≡ b - a = omega arith in rw e
  sum_below true true p q h = absurd (omega (arith, q refl))

-- ---- floats
pub add-round : (x y : Float) → Plain x → Plain y → Rounded (add binary32 x y) (num x * den y + num y * den x) (den x * den y)
unfolding add
add-round =
    both-plain (λ x y. Rounded (add binary32 x y) (num x * den y + num y * den x) (den x * den y))
    (λ s t m n e d. sum-up (m * up e * down d) (n * up d * down e) (down e * down d) (mul-pos (down_pos e) (down_pos d)) s t)

pub sub-round : (x y : Float) → Plain x → Plain y → num y * den x ≤ num x * den y → Rounded (sub binary32 x y) (num x * den y - num y * den x) (den x * den y)
unfolding sub add neg
sub-round =
    both-plain (λ x y. num y * den x ≤ num x * den y → Rounded (sub binary32 x y) (num x * den y - num y * den x) (den x * den y))
    (λ s t m n e d. sum-down (m * up e * down d) (n * up d * down e) (down e * down d) (mul-pos (down_pos e) (down_pos d)) s t)

pub sub-below : (x y : Float) → Plain x → Plain y → num x * den y < num y * den x → sub binary32 x y ≡ round binary32 true (num y * den x - num x * den y) (den x * den y)
unfolding sub add neg
sub-below =
    both-plain (λ x y. num x * den y < num y * den x → sub binary32 x y ≡ round binary32 true (num y * den x - num x * den y) (den x * den y))
    (λ s t m n e d. sum_below (m * up e * down d) (n * up d * down e) (down e * down d) (mul-pos (down_pos e) (down_pos d)) s t)

-- ---- two fractions over one denominator
pub over-left : {x : Float} {a c : ℕ} → Val x a c → (y : Float) → num x * den y * c ≡ a * (den x * den y)
over-left {x} {a} {c} p y = rw (mul_right_comm (num x) (den y) c, p.size) (mul_assoc a (den x) (den y))

pub over-right : {y : Float} {b d : ℕ} → Val y b d → (x : Float) → num y * den x * d ≡ b * (den x * den y)
over-right {y} q x = rw (mul_comm (den x) (den y)) (over-left q x)

pub num-left : {x : Float} {a : ℕ} → Is x a → (y : Float) → num x * den y ≡ a * (den x * den y)
num-left p y = sym (mul-one _) ∙ over-left p y

pub num-right : {y : Float} {b : ℕ} → Is y b → (x : Float) → num y * den x ≡ b * (den x * den y)
num-right q x = sym (mul-one _) ∙ over-right q x

-- above 0 there is one way
pub positive-round : (z : Float) (N D : ℕ) → 0 < N → Rounded z N D → z ≡ round binary32 false N D
positive-round z N D h (inl r) = r
positive-round z N D h (inr r) = absurd (omega (arith, r.1))

pub over-pos : (x y : Float) → 0 < den x * den y
over-pos x y = mul-pos (den_pos x) (den_pos y)

-- ---- whole numbers
rounded_whole : (z : Float) (N D a : ℕ) → 0 < D → a < 2 ^ 24 → N ≡ a * D → Rounded z N D → Is z a
rounded_whole z N D a P h e (inl r) = rw r (of-value _ a 1 (pow_pos 0) (exact binary32 false N D a 0 P h zero-le (rw mul-one e)))
rounded_whole z N D a P h e (inr r) = rw (no_factor a D P (sym e ∙ r.1)) r.0

sub-mul : (a b D : ℕ) → a * D - b * D ≡ (a - b) * D
sub-mul a b D = rw (mul_comm a D, mul_comm b D, mul_comm (a - b) D) (sym (mul-sub D a b))

module _ {x y : Float} {a b : ℕ} (p : Is x a) (q : Is y b) where
  pub add-whole : a + b < 2 ^ 24 → Is (add binary32 x y) (a + b)
  add-whole h = rounded_whole _ _ _ (a + b) (over-pos x y) h (rw (num-left p y, num-right q x) (sym (add-mul a b (den x * den y)))) (add-round x y p.plain q.plain)

  pub sub-whole : b ≤ a → a < 2 ^ 24 → Is (sub binary32 x y) (a - b)
  sub-whole l h =
      rounded_whole _ _ _ (a - b) (over-pos x y) (omega arith) (rw (num-left p y, num-right q x) (sub-mul a b (den x * den y)))
      (sub-round x y p.plain q.plain (rw (num-left p y, num-right q x) (mul-le-mul_right (den x * den y) l)))

  -- a difference below 0
  pub sub_negative : a < b → b < 2 ^ 24 → HasValue (sub binary32 x y) true (b - a) 1
  sub_negative l h =
      rw (sub-below x y p.plain q.plain (rw (num-left p y, num-right q x) (mul-lt-mul_of_pos_right l (over-pos x y))))
      (exact binary32 true _ _ (b - a) 0 (over-pos x y) (omega arith) zero-le (rw (mul-one, num-left p y, num-right q x) (sub-mul b a (den x * den y))))
