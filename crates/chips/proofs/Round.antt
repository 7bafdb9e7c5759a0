-- A fraction rounded: exact where it has few binary digits; and where it lies on one side of such a fraction, the result does too, since rounding keeps the order.
-- Assumes nothing.
use Rattle.std.proofs.Common.{◌≡◌, ℕ, suc, ◌+◌, ◌-◌, ◌*◌, ◌^◌, ◌<◌, ◌≤◌, Bool, true, false, T, ◌⊎◌, sym, refl, ◌∙◌, inl, inr, ⊎_elim, zero-le, lt_of_lt_of_le, lt_of_le_of_lt, mul_assoc, lt_of_mul-lt-mul_right, mul-lt-mul_of_pos_right, mul-one, mul_right_comm, arith, pow_pos, pow_mono, pow-add, shl_lt, le-ltb, lt-ltb, leb-true}
use lib.Ieee.{Float, nan, inf, fin, Format, prec, emax, low, odd, units, round, lt, eq, le}
use lib.Ieee.Digits.{back}
use lib.Ieee.Fits.{reach, round_is}
use lib.Ieee.Exact.{HasValue, odd_sign, round_exact}
use lib.Ieee.Order.{round_mono}
use lib.Ieee.Scale.{round_same}
use lib.Ieee.Positive.{num, den, den_pos}
use Rattle.commons.proofs.Order.{lt_or_le}
use Rattle.chips.proofs.Value.{Plain, Val, Is, own, of-value, lt_val, le_val}

module _ (f : Format) where
  room : (p l t e : ℕ) → p ≤ e → p + (l - t) ≤ l + e
  room p l t e h = omega arith

  dyadic : (s : Bool) (a t : ℕ) → a < 2 ^ prec f → t ≤ low f → HasValue (round f s a (2 ^ t)) s a (2 ^ t)
  dyadic s a t h l =
      round_exact f s a (2 ^ t) a (low f - t) (pow_pos t) h
      (lt_of_lt_of_le (shl_lt (prec f) (low f - t) h) (pow_mono (room (prec f) (low f) t _ (reach f))))
      (rw (mul_assoc, ← pow-add 2 (low f - t) t, back (low f) t l))

  -- a / 2 ^ t, where a has no more digits than the format keeps
  pub exact : (s : Bool) (N D a t : ℕ) → 0 < D → a < 2 ^ prec f → t ≤ low f → N * 2 ^ t ≡ a * D → HasValue (round f s N D) s a (2 ^ t)
  exact s N D a t P h l e = rw (round_same f s N D a (2 ^ t) P (pow_pos t) e) (dyadic s a t h l)

-- not negative, plus infinity counted
abbrev pub NonNeg : Float → Type 0
NonNeg x = (x ≡ inf false) ⊎ Plain x

inf_or : (f : Format) (q k : ℕ) → NonNeg (units f false q k)
unfolding units
inf_or f q k =
    let top = 2 ^ (low f + suc (emax f)) in
    let o : Val (odd (suc (prec f)) false q k (low f)) (q * 2 ^ k) (2 ^ low f) = of-value _ _ _ (pow_pos (low f)) (odd_sign (suc (prec f)) false q k (low f)) in
    ⊎_elim (λ l. inr (rw (lt-ltb (q * 2 ^ k) top l) o.plain)) (λ g. inl (rw (le-ltb (q * 2 ^ k) top g))) (lt_or_le (q * 2 ^ k) top)

pub round_non_neg : (f : Format) (N D : ℕ) → NonNeg (round f false N D)
round_non_neg f N D = rw (round_is f false N D) (inf_or f _ _)

-- plus infinity is above each of them
pub inf-lt : (v : Float) → Plain v → lt (inf false) v ≡ false
unfolding lt
inf-lt nan p = refl
inf-lt (inf s) p = absurd p
inf-lt (fin s m e) p = refl

pub inf-le : (v : Float) → Plain v → T (le (inf false) v) → ⊥
unfolding le lt eq
inf-le nan p h = h
inf-le (inf s) p h = p
inf-le (fin s m e) p h = h

true_of : (b : Bool) → T b → b ≡ true
true_of true t = refl
true_of false t = absurd t

-- ---- N / D against a whole number b
module _ (f : Format) {v : Float} {b : ℕ} (q : Is v b) (N D : ℕ) (P : 0 < D) where
  abbrev z : Float
  z = round f false N D

  pub not-under : b < 2 ^ prec f → b * D ≤ N → lt (round f false N D) v ≡ false
  not-under h l =
      let u : Val (round f false b 1) b 1 = of-value _ b 1 (pow_pos 0) (dyadic f false b 0 h zero-le) in
      ⊎_elim (λ i. rw i (inf-lt v q.plain))
      (λ p. lt_val (own z p) q ∙ le-ltb (num z * 1) (b * den z) (leb-true (b * den z) (num z * 1) (sym (le_val u (own z p)) ∙ true_of _ (round_mono f b 1 N D (pow_pos 0) P (rw mul-one l)))))
      (round_non_neg f N D)

  -- by a fraction between the two
  pub under : (a t : ℕ) → a < 2 ^ prec f → t ≤ low f → N * 2 ^ t ≤ a * D → a < b * 2 ^ t → lt (round f false N D) v ≡ true
  under a t h l e k =
      let u : Val (round f false a (2 ^ t)) a (2 ^ t) = of-value _ a (2 ^ t) (pow_pos t) (dyadic f false a t h l) in
      let m = round_mono f N D a (2 ^ t) P (pow_pos t) e in
      ⊎_elim (λ i. absurd (inf-le _ u.plain (rw i at m)))
      (λ p.
      let y : num z * 2 ^ t ≤ a * den z = leb-true (num z * 2 ^ t) (a * den z) (sym (le_val (own z p) u) ∙ true_of _ m) in
      let w : a * den z < b * 2 ^ t * den z = mul-lt-mul_of_pos_right k (den_pos z) in
      lt_val (own z p) q ∙ lt-ltb (num z * 1) (b * den z) (rw mul-one (lt_of_mul-lt-mul_right (2 ^ t) (rw (mul_right_comm b (den z) (2 ^ t)) (lt_of_le_of_lt y w)))))
      (round_non_neg f N D)
