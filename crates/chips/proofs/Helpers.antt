-- The helpers on whole numbers: max, min and abs are those of numbers, a raise is a difference cut at 0, and a stack counts as nothing where it is 0.
-- Assumes nothing.
use Rattle.std.proofs.Common.{◌≡◌, ℕ, ◌+◌, ◌-◌, ◌*◌, ◌^◌, ◌<◌, ◌≤◌, min, max, true, false, eqb, leb, refl, ◌∙◌, ⊎_elim, eq-or-lt_of_le, mul-pos, arith, pow_pos, le-ltb, lt-ltb, le-leb}
use lib.Ieee.{Float, nan, inf, fin, binary32, up, down, sub, lt, is_nan}
use lib.Ieee.Fits.{down_pos}
use lib.Ieee.Exact.{HasValue}
use borrow.Author.Tests.{lt-leb}
use Rattle.commons.proofs.Order.{lt_or_le, is-eqb}
use Rattle.floats.specs.Helpers.{max_of, min_of, abs_of, near_zero, epsilon, one, zerof}
use Rattle.bets.specs.Bet.{raise_by}
use Rattle.chips.proofs.Value.{Plain, Val, Is, unsigned, lt-whole, le_val}
use Rattle.chips.proofs.Add.{sub-whole, sub_negative}

pub zero_is : Is zerof 0
zero_is = record { plain = λ t. unsigned t; over = pow_pos 0; size = refl }

pub one-is : Is one 1
one-is = record { plain = λ t. unsigned t; over = pow_pos 0; size = refl }

epsilon-is : Val epsilon 1 (2 ^ 23)
epsilon-is = record { plain = λ t. unsigned t; over = pow_pos 23; size = refl }

pub not-nan : (x : Float) → Plain x → is_nan x ≡ false
unfolding is_nan
not-nan nan p = absurd p
not-nan (inf s) p = refl
not-nan (fin s m e) p = refl

-- ---- the larger and the smaller
pub max-whole : {x y : Float} {a b : ℕ} → Is x a → Is y b → Is (max_of x y) (max a b)
unfolding max_of
max-whole {x} {y} {a} {b} p q =
    rw (not-nan x p.plain, lt-whole p q)
    (⊎_elim (λ l. let e : max a b ≡ b = omega arith in rw (lt-ltb a b l, e) q) (λ g. let e : max a b ≡ a = omega arith in rw (le-ltb a b g, e) p) (lt_or_le a b))

pub min-whole : {x y : Float} {a b : ℕ} → Is x a → Is y b → Is (min_of x y) (min a b)
unfolding min_of
min-whole {x} {y} {a} {b} p q =
    rw (not-nan x p.plain, lt-whole q p)
    (⊎_elim (λ l. let e : min a b ≡ b = omega arith in rw (lt-ltb b a l, e) q) (λ g. let e : min a b ≡ a = omega arith in rw (le-ltb b a g, e) p) (lt_or_le b a))

-- the first, where nothing smaller stands second
pub min-first : (x y : Float) → Plain x → lt y x ≡ false → min_of x y ≡ x
unfolding min_of
min-first x y p l = rw (not-nan x p, l)

-- ---- without the sign
pub abs-whole : {x : Float} {a : ℕ} → Is x a → Is (abs_of x) a
unfolding abs_of
abs-whole {x = nan} p = absurd p.plain
abs-whole {x = inf s} p = absurd p.plain
abs-whole {x = fin s m e} p = record { plain = λ t. unsigned t; over = p.over; size = p.size }

-- a number below 0
pub record Below (z : Float) (v : ℕ) : Type 0 where
  pub turned : Is (abs_of z) v
  pub number : is_nan z ≡ false
  pub under : lt z zerof ≡ true

below : (z : Float) (v : ℕ) → 0 < v → HasValue z true v 1 → Below z v
unfolding abs_of is_nan lt
below nan v h p = absurd p
below (inf s) v h p = absurd p
below (fin false m e) v h p = unsigned p.0
below (fin true m e) v h p =
    let a : 0 < v * down e = mul-pos h (down_pos e) in
    let b = p.1 in
    record { turned = record { plain = λ t. unsigned t; over = pow_pos 0; size = p.1 }; number = refl; under = lt-ltb 0 (m * up e * 1 + 0 * 1 * down e) (omega arith) }

-- x - y, where x is the smaller
below_sub : {x y : Float} {a b : ℕ} → Is x a → Is y b → a < b → b < 2 ^ 24 → Below (sub binary32 x y) (b - a)
below_sub {a} {b} p q l h = below _ (b - a) (omega arith) (sub_negative p q l h)

-- max(y - B, 0)
pub raise-whole : {y b : Float} {Y B : ℕ} → Is y Y → Is b B → Y < 2 ^ 24 → B < 2 ^ 24 → Is (raise_by y b) (Y - B)
unfolding max_of
raise-whole {y} {b} {Y} {B} p q h k =
    ⊎_elim
    (λ (l : Y < B).
    let w = below_sub p q l k in
    let e : Y - B ≡ 0 = omega arith in
    rw (w.number, w.under, e) zero_is)
    (λ (g : B ≤ Y).
    let e : Y - B ≡ max (Y - B) 0 = omega arith in
    rw e (max-whole (sub-whole p q g h) zero_is))
    (lt_or_le Y B)

-- |x - k| where x is at most k
pub distance-whole : {x k : Float} {X K : ℕ} → Is x X → Is k K → X ≤ K → K < 2 ^ 24 → Is (abs_of (sub binary32 x k)) (K - X)
distance-whole {x} {k} {X} {K} p q l h =
    ⊎_elim
    (λ (e : X ≡ K). let z : K - X ≡ X - K = omega arith in rw z (abs-whole (sub-whole p q (omega arith) (omega arith))))
    (λ (j : X < K). (below_sub p q j h).turned)
    (eq-or-lt_of_le l)

-- |x| is at most EPSILON exactly where x is 0
pub near_zero_lem : {x : Float} {a : ℕ} → Is x a → near_zero x ≡ eqb a 0
unfolding near_zero
near_zero_lem {x} {a} p =
    le_val (abs-whole p) epsilon-is
    ∙ is-eqb (leb (a * 2 ^ 23) 1) a 0 (λ e. le-leb (a * 2 ^ 23) 1 (omega arith)) (λ n. lt-leb (a * 2 ^ 23) 1 (omega arith))
