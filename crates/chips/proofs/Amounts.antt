-- What is bet, as a float and as a number. An amount above all chips, plus infinity among them, is all in: what it leaves after the round bet is no less than
-- the stack, and no tolerance brings it below the round bet. Assumes nothing.
use Rattle.std.proofs.Common.{◌≡◌, ℕ, ◌+◌, ◌-◌, ◌*◌, ◌<◌, ◌≤◌, Bool, true, false, cond, T, ◌⊎◌, refl, inl, inr, mul-le-mul_right, mul-pos, arith, ltb→lt, ne_eqb}
use lib.Ieee.{Float, nan, inf, fin, binary32, up, down, add, sub, neg, mul, lt, is_nan}
use lib.Ieee.Fits.{down_pos}
use lib.Ieee.Positive.{num, den, positive}
use Rattle.floats.specs.Helpers.{max_of, abs_of, sign_of, tol_of, one, epsilon, thousand}
use Rattle.bets.specs.Bet.{invalid_size, slack_of, payment_of}
use Rattle.chips.specs.Whole.{most}
use Rattle.chips.specs.Rule.{Amount, chips, endless}
use Rattle.chips.proofs.Value.{Plain, Is, no_size}
use Rattle.chips.proofs.Round.{NonNeg, round_non_neg, inf-lt, not-under}
use Rattle.chips.proofs.Add.{minus_zero, add-round, sub-round, positive-round, over-pos, num-left, num-right}
use Rattle.chips.proofs.Helpers.{not-nan, min-first, abs-whole, one-is}

-- a whole number of any size without a sign bit, so not -0.0; or plus infinity
abbrev pub Means : Float → Amount → Type 0
Means a (chips n) = Is a n × (sign_of a ≡ false)
Means a endless = a ≡ inf false

pub not-invalid : (a : Float) (n : Amount) → Means a n → invalid_size a ≡ false
unfolding sign_of is_nan
not-invalid a (chips n) h = rw h.1 (not-nan a h.0.plain)
not-invalid a endless h = rw h

-- ---- not negative, plus infinity counted
max_non_neg : (x y : Float) → NonNeg x → NonNeg y → NonNeg (max_of x y)
unfolding max_of
max_non_neg x y p q = pick (is_nan x) y (cond (lt x y) y x) q (pick (lt x y) y x q p)
  where
    pick : (t : Bool) (x y : Float) → NonNeg x → NonNeg y → NonNeg (cond t x y)
    pick true x y p q = p
    pick false x y p q = q

-- times a number above 0
mul_non_neg : (x y : Float) → NonNeg x → T (positive y) → NonNeg (mul binary32 x y)
unfolding mul
mul_non_neg x nan p q = absurd q
mul_non_neg x (inf t) p q = absurd q
mul_non_neg x (fin true n d) p q = absurd q
mul_non_neg x (fin false n d) (inl e) q = let h : 0 < n = ltb→lt 0 n q in inl (rw (e, ne_eqb n 0 (λ z. omega arith)))
mul_non_neg nan (fin false n d) (inr p) q = absurd p
mul_non_neg (inf s) (fin false n d) (inr p) q = absurd p
mul_non_neg (fin false m e) (fin false n d) (inr p) q = round_non_neg binary32 (m * up e * (n * up d)) (down e * down d)
mul_non_neg (fin true m e) (fin false n d) (inr p) q = inr (minus_zero (m * up e * (n * up d)) (down e * down d) (mul-pos (down_pos e) (down_pos d)) (no_size m (up e) (n * up d) (p refl))).plain

pub slack_non_neg : (a : Float) {b : Float} {B : ℕ} → NonNeg (abs_of a) → Is b B → NonNeg (slack_of a b)
unfolding tol_of
slack_non_neg a {b} h q =
    mul_non_neg _ thousand (mul_non_neg _ epsilon (max_non_neg (max_of (abs_of a) (abs_of b)) one (max_non_neg (abs_of a) (abs_of b) h (inr (abs-whole q).plain)) (inr one-is.plain)) tt) tt

-- ---- above all chips
abbrev pub Large : Float → Type 0
Large a = (a ≡ inf false) ⊎ ((n : ℕ) × Is a n × (most < n))

pub large-abs : (a : Float) → Large a → NonNeg (abs_of a)
unfolding abs_of
large-abs a (inl e) = inl (rw e)
large-abs a (inr h) = inr (abs-whole h.1).plain

inf-sub : (p : Float) → Plain p → sub binary32 (inf false) p ≡ inf false
unfolding sub add neg
inf-sub nan q = absurd q
inf-sub (inf s) q = absurd q
inf-sub (fin s m e) q = refl

inf-add : (e : Float) → NonNeg e → add binary32 (inf false) e ≡ inf false
unfolding add
inf-add e (inl i) = rw i
inf-add nan (inr p) = absurd p
inf-add (inf s) (inr p) = absurd p
inf-add (fin s m d) (inr p) = refl

add-inf : (a : Float) → Plain a → add binary32 a (inf false) ≡ inf false
unfolding add
add-inf nan p = absurd p
add-inf (inf s) p = absurd p
add-inf (fin s m e) p = refl

module _ {p : Float} {P : ℕ} (hp : Is p P) where
  -- not 15
  pub large-calls : (a e : Float) → Large a → NonNeg e → P ≤ most → lt (add binary32 a e) p ≡ false
  large-calls a e (inl i) n fit = rw (i, inf-add e n) (inf-lt p hp.plain)
  large-calls a e (inr h) (inl i) fit = rw (i, add-inf a h.1.plain) (inf-lt p hp.plain)
  large-calls a e (inr (A, ha, l)) (inr n) fit =
      let N = num a * den e + num e * den a in
      let D = den a * den e in
      let s : num a * den e ≡ A * D = num-left ha e in
      let b : 0 < A * D = mul-pos (omega arith) (over-pos a e) in
      rw (positive-round _ N D (omega arith) (add-round a e ha.plain n))
      (not-under binary32 hp N D (over-pos a e) (omega arith) (omega (arith, mul-le-mul_right {m = P} {n = A} D (omega arith))))

  -- the payment is the stack
  pub large-pays : {k : Float} {K : ℕ} → Is k K → (a : Float) → Large a → P + K ≤ most → payment_of a p k ≡ k
  large-pays {k} hk a (inl i) fit = min-first k _ hk.plain (rw (i, inf-sub p hp.plain) (inf-lt k hk.plain))
  large-pays {k} {K} hk a (inr (A, ha, l)) fit =
      let N = num a * den p - num p * den a in
      let D = den a * den p in
      let s = num-left ha p in
      let t = num-right hp a in
      let b : 0 < D = over-pos a p in
      let c : (P + (K + 1)) * D ≤ A * D = mul-le-mul_right D (omega arith) in
      min-first k _ hk.plain
      (rw (positive-round _ N D (omega arith) (sub-round a p ha.plain hp.plain (omega arith)))
      (not-under binary32 hk N D b (omega arith) (omega arith)))
