-- A float that is finite and not negative, -0.0 counted, is a fraction a / c; `Is x k` says that it is the whole number k.
-- Its order is that of the fractions, since -0.0 compares as 0. Assumes nothing.
use Rattle.std.proofs.Common.{◌≡◌, ℕ, ◌*◌, ◌<◌, ◌≤◌, Bool, true, false, eqb, ltb, leb, ℤ, sym, refl, ◌∙◌, true≢false, le_of_eq, zero-add, zero-mul, mul-one, arith, le-ltb}
use mathlib.Core.Bool.{and-true, and_self}
use lib.Ieee.{Float, nan, inf, fin, up, down, below, level, lt, eq, le}
use lib.Ieee.Exact.{HasValue}
use lib.Ieee.Order.{transfer}
use lib.Ieee.Positive.{num, den, den_pos}
use Rattle.commons.proofs.Order.{ltb-same, eqb_same, lt_or_eq}

-- finite, and with a sign only where it is 0
abbrev pub Plain : Float → Type 0
Plain nan = ⊥
Plain (inf s) = ⊥
Plain (fin s m e) = s ≡ true → m ≡ 0

-- x is a / c
pub record Val (x : Float) (a c : ℕ) : Type 0 where
  pub plain : Plain x
  pub over : 0 < c
  pub size : num x * c ≡ a * den x

abbrev pub Is : Float → ℕ → Type 0
Is x k = Val x k 1

pub unsigned : {A : Type 0} → false ≡ true → A
unsigned e = absurd (true≢false (sym e))

-- by its own numerator and denominator
pub own : (x : Float) → Plain x → Val x (num x) (den x)
own x p = record { plain = p; over = den_pos x; size = refl }

pub of-value : (x : Float) (a c : ℕ) → 0 < c → HasValue x false a c → Val x a c
of-value nan a c o h = absurd h
of-value (inf s) a c o h = absurd h
of-value (fin s m e) a c o h = record { plain = λ t. unsigned (sym h.0 ∙ t); over = o; size = h.1 }

-- ---- the order
-- a number with no size has none after scaling
pub no_size : (m u d : ℕ) → m ≡ 0 → m * u * d ≡ 0
no_size m u d z = rw (z, zero-mul u) (zero-mul d)

-- of magnitudes with a sign only at 0 the signs do not count
below-is : (s t : Bool) (a b : ℕ) → (s ≡ true → a ≡ 0) → (t ≡ true → b ≡ 0) → below s a t b ≡ ltb a b
below-is false false a b p q = refl
below-is false true a b p q = sym (le-ltb a b (omega (arith, q refl)))
below-is true false a b p q = rw (p refl, zero-add b)
below-is true true a b p q = rw (p refl, q refl)

level-is : (s t : Bool) (a b : ℕ) → (s ≡ true → a ≡ 0) → (t ≡ true → b ≡ 0) → level s a t b ≡ eqb a b
level-is false false a b p q = and-true (eqb a b)
level-is false true a b p q = rw (q refl) (and_self (eqb a 0))
level-is true false a b p q = rw (p refl) (and-true (eqb 0 b))
level-is true true a b p q = and-true (eqb a b)

-- what holds of finite numbers with a sign only at 0, over one denominator, holds of plain floats
pub both-plain : (R : Float → Float → Type 0)
    → ((s t : Bool) (m n : ℕ) (e d : ℤ) → (s ≡ true → m * up e * down d ≡ 0) → (t ≡ true → n * up d * down e ≡ 0) → R (fin s m e) (fin t n d))
    → (x y : Float) → Plain x → Plain y → R x y
both-plain R h nan y p q = absurd p
both-plain R h (inf s) y p q = absurd p
both-plain R h (fin s m e) nan p q = absurd q
both-plain R h (fin s m e) (inf t) p q = absurd q
both-plain R h (fin s m e) (fin t n d) p q = h s t m n e d (λ z. no_size m (up e) (down d) (p z)) (λ z. no_size n (up d) (down e) (q z))

lt-plain : (x y : Float) → Plain x → Plain y → lt x y ≡ ltb (num x * den y) (num y * den x)
unfolding lt
lt-plain = both-plain (λ x y. lt x y ≡ ltb (num x * den y) (num y * den x)) (λ s t m n e d. below-is s t (m * up e * down d) (n * up d * down e))

eq-plain : (x y : Float) → Plain x → Plain y → eq x y ≡ eqb (num x * den y) (num y * den x)
unfolding eq
eq-plain = both-plain (λ x y. eq x y ≡ eqb (num x * den y) (num y * den x)) (λ s t m n e d. level-is s t (m * up e * down d) (n * up d * down e))

module _ {x y : Float} {a c b d : ℕ} (p : Val x a c) (q : Val y b d) where
  -- a / c ≤ b / d, by the floats' own fractions and back
  own-le : a * d ≤ b * c → num x * den y ≤ num y * den x
  own-le = transfer (num x) (num y) (den x) (den y) a b c d p.over q.over p.size q.size

  val_le : num x * den y ≤ num y * den x → a * d ≤ b * c
  val_le = transfer a b c d (num x) (num y) (den x) (den y) (den_pos x) (den_pos y) (sym p.size) (sym q.size)

module _ {x y : Float} {a c b d : ℕ} (p : Val x a c) (q : Val y b d) where
  pub lt_val : lt x y ≡ ltb (a * d) (b * c)
  lt_val = lt-plain x y p.plain q.plain ∙ ltb-same (num x * den y) (num y * den x) (a * d) (b * c) (val_le q p) (own-le q p)

  pub eq_val : eq x y ≡ eqb (a * d) (b * c)
  eq_val =
      eq-plain x y p.plain q.plain
      ∙ eqb_same (num x * den y) (num y * den x) (a * d) (b * c)
      (λ e. omega (arith, val_le p q (le_of_eq e), val_le q p (le_of_eq (sym e))))
      (λ e. omega (arith, own-le p q (le_of_eq e), own-le q p (le_of_eq (sym e))))

  pub le_val : le x y ≡ leb (a * d) (b * c)
  unfolding le
  le_val = rw (lt_val, eq_val) (lt_or_eq (a * d) (b * c))

-- ---- whole numbers
module _ {x y : Float} {a b : ℕ} (p : Is x a) (q : Is y b) where
  pub lt-whole : lt x y ≡ ltb a b
  lt-whole = rw (lt_val p q, mul-one a, mul-one b)

  pub eq-whole : eq x y ≡ eqb a b
  eq-whole = rw (eq_val p q, mul-one a, mul-one b)

  pub le-whole : le x y ≡ leb a b
  le-whole = rw (le_val p q, mul-one a, mul-one b)
