-- What a test says, alone, turned round or joined with another, and of what is chosen by it. Assumes nothing.
use Prim.Native.Nat.{ℕ, ◌≤◌, ◌<◌}
use native.Mathlib.Omega.{arith}
use mathlib.Core.Path.{◌≡◌, refl, sym, ◌∙◌, subst}
use mathlib.Core.Logic.{◌⊎◌, inl, inr}
use mathlib.Core.Bool.{Bool, true, false, cond, not, ◌&&◌, ◌||◌}
use lib.Dec.{T}

pub either : (b : Bool) → (b ≡ true) ⊎ (b ≡ false)
either true = inl refl
either false = inr refl

pub differ : (b : Bool) → b ≡ true → b ≡ false → ⊥
differ b t f = subst T (sym t ∙ f) tt

pub holds : (b : Bool) → T b → b ≡ true
holds true t = refl
holds false t = absurd t

pub told : (b : Bool) → b ≡ true → T b
told b e = subst T (sym e) tt

-- a test that cannot fail holds, and one that cannot hold fails
pub surely : (b : Bool) → (b ≡ false → ⊥) → b ≡ true
surely true n = refl
surely false n = absurd (n refl)

pub never : (b : Bool) → (b ≡ true → ⊥) → b ≡ false
never true n = absurd (n refl)
never false n = refl

-- a test turned round
pub turned : (b c : Bool) → not b ≡ c → b ≡ not c
turned true c e = ap-not c e
  where
    ap-not : (c : Bool) → false ≡ c → true ≡ not c
    ap-not true e = absurd (differ true refl (sym e))
    ap-not false e = refl
turned false c e = ap-not c e
  where
    ap-not : (c : Bool) → true ≡ c → false ≡ not c
    ap-not true e = refl
    ap-not false e = absurd (differ true refl e)

-- ---- two tests
pub and_both : (a b : Bool) → (a && b) ≡ true → (a ≡ true) × (b ≡ true)
and_both true b e = (refl, e)
and_both false b e = absurd (differ false e refl)

pub and-true : (a : Bool) → (a && true) ≡ a
and-true true = refl
and-true false = refl

pub and-false : (a : Bool) → (a && false) ≡ false
and-false true = refl
and-false false = refl

pub and_turned : (a b : Bool) → (a && b) ≡ (b && a)
and_turned true b = sym (and-true b)
and_turned false b = sym (and-false b)

pub and_assoc : (a b c : Bool) → ((a && b) && c) ≡ (a && (b && c))
and_assoc true b c = refl
and_assoc false b c = refl

pub or_cases : (a b : Bool) → (a || b) ≡ true → (a ≡ true) ⊎ (b ≡ true)
or_cases true b e = inl refl
or_cases false b e = inr e

pub or_neither : (a b : Bool) → (a || b) ≡ false → (a ≡ false) × (b ≡ false)
or_neither true b e = absurd (differ true refl e)
or_neither false b e = (refl, e)

-- a test that has to hold only where another does
pub if_true : (a b : Bool) → (not a || b) ≡ true → a ≡ true → b ≡ true
if_true true b h e = h
if_true false b h e = absurd (differ false e refl)

pub true_if : (a b : Bool) → (a ≡ true → b ≡ true) → (not a || b) ≡ true
true_if true b h = h refl
true_if false b h = refl

-- ---- what is chosen
-- of either of two, as a test says, what holds of both; the test may be put to use
pub pick : {A : Type 0} (P : A → Type 0) (b : Bool) (x y : A) → P x → P y → P (cond b x y)
pick P true x y p q = p
pick P false x y p q = q

pub tested : {A : Type 0} (P : A → Type 0) (b : Bool) (x y : A) → (b ≡ true → P x) → (b ≡ false → P y) → P (cond b x y)
tested P true x y p q = p refl
tested P false x y p q = q refl

-- a number above 0 passed
pub chosen : (b : Bool) (x : ℕ) → 0 < cond b x 0 → (b ≡ true) × (cond b x 0 ≡ x)
chosen true x h = (refl, refl)
chosen false x h = absurd (omega arith)

pub chosen-le : (b : Bool) (x : ℕ) → cond b x 0 ≤ x
chosen-le true x = omega arith
chosen-le false x = omega arith
