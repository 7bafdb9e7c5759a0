-- One place more of each fold over a list, for the loops that compute it. Assumes nothing.
use Prim.Native.Nat.{ℕ, zero, suc, ◌+◌, ◌≤◌, ◌<◌}
use native.Mathlib.Numerals.{add-one}
use native.Mathlib.Omega.{arith}
use mathlib.Core.Path.{◌≡◌, refl, ◌∙◌}
use mathlib.Core.Bool.{Bool, true, false, cond, ◌||◌}
use mathlib.Core.List.{List}
use lib.ListN.{length, get_or, take}
use Rattle.std.proofs.lemmas.List.{length-take, get_or-take}
use lib.Ieee.{Float, nan, binary32, add, lt}
use Rattle.commons.specs.Folds.{any_to}
use Rattle.floats.specs.Helpers.{zerof, max_of}
use Rattle.amounts.specs.Amounts.{sum_of, largest_of, above_of, invalid, any_invalid}

-- the end of a loop over n places
pub fold_end : {A : Type 0} (f : ℕ → List Float → A) (l : List Float) (i n : ℕ) (x : A) → x ≡ f i l → i ≤ n → n ≤ i → x ≡ f n l
fold_end f l i n x e h g = let q : i ≡ n = omega arith in e ∙ rw q

-- in the first m places of a list stands what stands in it, and a loop over them ends at the m-th
module _ (l : List Float) (m : ℕ) where
  pub taken : (i : ℕ) → i < length (take m l) → get_or (take m l) i nan ≡ get_or l i nan
  taken i h = get_or-take m l i nan (omega (arith, length-take m l))

  pub taken-end : {A : Type 0} (f : ℕ → List Float → A) (i n : ℕ) (x : A) → x ≡ f i l → i ≤ length (take m l) → length (take m l) ≤ i → m ≡ n → n ≤ length l → x ≡ f n l
  taken-end f i n x e h g a b = fold_end f l i n x e (omega (arith, length-take m l)) (omega (arith, length-take m l))

pub sum-next : (l : List Float) (i : ℕ) (x : Float) → x ≡ sum_of i l → add binary32 x (get_or l i nan) ≡ sum_of (i + 1) l
unfolding sum_of
sum-next l i x e = rw add-one (rw e)

pub largest-next : (l : List Float) (i : ℕ) (x y : Float) → x ≡ largest_of i l → y ≡ max_of x (get_or l i nan) → y ≡ largest_of (i + 1) l
unfolding largest_of
largest-next l i x y e g = rw add-one (rw (g, e))

pub above-next : (l : List Float) (i x u : ℕ) → x ≡ above_of i l → u ≡ cond (lt zerof (get_or l i nan)) 1 0 → x + u ≡ above_of (i + 1) l
unfolding above_of
above-next l i x u e g = rw add-one (rw (g, e))

pub invalid-any : (k : ℕ) (l : List Float) → any_to k (λ i. invalid (get_or l i nan)) ≡ any_invalid k l
unfolding any_to any_invalid
invalid-any zero l = refl
invalid-any (suc k) l = λ j. invalid-any k l j || invalid (get_or l k nan)

one_or_none : (b : Bool) → cond b 1 0 ≤ 1
one_or_none true = omega arith
one_or_none false = omega arith

above-le : (k : ℕ) (l : List Float) → above_of k l ≤ k
unfolding above_of
above-le zero l = omega arith
above-le (suc k) l = omega (arith, above-le k l, one_or_none (lt zerof (get_or l k nan)))

-- a count of at most 16 fits a byte
pub above-fits : (l : List Float) (i x u : ℕ) → i < 16 → x ≡ above_of i l → u ≡ cond (lt zerof (get_or l i nan)) 1 0 → x + u < 256
above-fits l i x u h e g = omega (arith, above-le i l, rw (← g) at (one_or_none (lt zerof (get_or l i nan))))
