-- What stands where in a list of which places are filled by a rule, and one place more for the loops that fill it. Assumes nothing.
use Prim.Native.Nat.{ℕ, zero, suc, ◌+◌, ◌≤◌, ◌<◌}
use native.Mathlib.Nat.{zero-add}
use native.Mathlib.Numerals.{add-one}
use native.Mathlib.Omega.{arith}
use mathlib.Core.Path.{◌≡◌, refl, sym, ap, ◌∙◌}
use mathlib.Core.Logic.{⊎_elim}
use mathlib.Core.List.{List}
use lib.ListN.{get_or, set, length, length-set}
use lib.Seq.{get_or-set_same, get_or-set_other}
use Rattle.commons.specs.Filled.{filled, laid, shared, copied}
use Rattle.commons.proofs.Order.{last_or}

module _ {A : Type 0} (l : List A) (f : ℕ → A) where
  pub filled-long : (k : ℕ) → length (filled k l f) ≡ length l
  unfolding filled
  filled-long zero = refl
  filled-long (suc k) = length-set (filled k l f) k (f k) ∙ filled-long k

  pub filled_at : (k i : ℕ) (d : A) → i < k → k ≤ length l → get_or (filled k l f) i d ≡ f i
  unfolding filled
  filled_at zero i d h g = absurd (omega arith)
  filled_at (suc k) i d h g =
      ⊎_elim
      (λ e. ap (λ (j : ℕ). get_or (filled (suc k) l f) j d) e ∙ get_or-set_same (filled k l f) k (f k) d (omega (arith, filled-long k)) ∙ ap f (sym e))
      (λ b. get_or-set_other (filled k l f) k i (f k) d (λ e. omega arith) ∙ filled_at k i d b (omega arith))
      (last_or h)

  pub filled-out : (k i : ℕ) (d : A) → k ≤ i → get_or (filled k l f) i d ≡ get_or l i d
  unfolding filled
  filled-out zero i d h = refl
  filled-out (suc k) i d h = get_or-set_other (filled k l f) k i (f k) d (λ e. omega arith) ∙ filled-out k i d (omega arith)

  pub filled_none : l ≡ filled 0 l f
  unfolding filled
  filled_none = refl

  -- one place more, and the end of a loop
  pub filled_next : (i : ℕ) (o : List A) (x : A) → o ≡ filled i l f → x ≡ f i → set o i x ≡ filled (i + 1) l f
  unfolding filled
  filled_next i o x a b = rw add-one (rw (a, b))

  pub filled-end : (i n : ℕ) (o : List A) → o ≡ filled i l f → i ≤ n → n ≤ i → o ≡ filled n l f
  filled-end i n o a h g = let e : i ≡ n = omega arith in a ∙ rw e

pub filled_cong : {A : Type 0} (l : List A) (f g : ℕ → A) (k : ℕ) → ((i : ℕ) → i < k → f i ≡ g i) → filled k l f ≡ filled k l g
unfolding filled
filled_cong l f g zero e = refl
filled_cong l f g (suc k) e = λ j. set (filled_cong l f g k (λ i h. e i (omega arith)) j) k (e k (omega arith) j)

-- ---- places from one on
module _ {A : Type 0} (at : ℕ) (l : List A) (f : ℕ → A) where
  pub laid-long : (k : ℕ) → length (laid at k l f) ≡ length l
  unfolding laid
  laid-long zero = refl
  laid-long (suc k) = length-set (laid at k l f) (at + k) (f k) ∙ laid-long k

  pub laid_out : (k j : ℕ) (d : A) → ((i : ℕ) → i < k → j ≡ at + i → ⊥) → get_or (laid at k l f) j d ≡ get_or l j d
  unfolding laid
  laid_out zero j d h = refl
  laid_out (suc k) j d h = get_or-set_other (laid at k l f) (at + k) j (f k) d (h k (omega arith)) ∙ laid_out k j d (λ i b. h i (omega arith))

  pub laid-at : (k i : ℕ) (d : A) → i < k → at + k ≤ length l → get_or (laid at k l f) (at + i) d ≡ f i
  unfolding laid
  laid-at zero i d h g = absurd (omega arith)
  laid-at (suc k) i d h g =
      ⊎_elim
      (λ e. ap (λ (j : ℕ). get_or (laid at (suc k) l f) (at + j) d) e ∙ get_or-set_same (laid at k l f) (at + k) (f k) d (omega (arith, laid-long k)) ∙ ap f (sym e))
      (λ b. get_or-set_other (laid at k l f) (at + k) (at + i) (f k) d (λ e. omega arith) ∙ laid-at k i d b (omega arith))
      (last_or h)

  pub laid_none : l ≡ laid at 0 l f
  unfolding laid
  laid_none = refl

  -- one place more, and the end of a loop
  pub laid_next : (i : ℕ) (o : List A) (x : A) → o ≡ laid at i l f → x ≡ f i → set o (at + i) x ≡ laid at (i + 1) l f
  unfolding laid
  laid_next i o x a b = rw add-one (rw (a, b))

  pub laid_end : (i n : ℕ) (o : List A) → o ≡ laid at i l f → i ≤ n → n ≤ i → o ≡ laid at n l f
  laid_end i n o a h g = let e : i ≡ n = omega arith in a ∙ rw e

pub laid_cong : {A : Type 0} (at : ℕ) (l : List A) (f g : ℕ → A) (k : ℕ) → ((i : ℕ) → i < k → f i ≡ g i) → laid at k l f ≡ laid at k l g
unfolding laid
laid_cong at l f g zero e = refl
laid_cong at l f g (suc k) e = λ j. set (laid_cong at l f g k (λ i h. e i (omega arith)) j) (at + k) (e k (omega arith) j)

-- from place 0 on it is filled
pub laid_filled : {A : Type 0} (l : List A) (f : ℕ → A) (k : ℕ) → laid 0 k l f ≡ filled k l f
unfolding laid filled
laid_filled l f zero = refl
laid_filled l f (suc k) = λ j. set (laid_filled l f k j) (zero-add k j) (f k)

-- ---- copies that fit whole
module _ {A : Type 0} (d : A) (at : ℕ) (l : List A) (from : ℕ) (s : List A) (n : ℕ) where
  pub copied-whole : at + n ≤ length l → from + n ≤ length s → copied d at l from s n ≡ laid at n l (λ k. get_or s (from + k) d)
  copied-whole h g = let e : shared at l from s n ≡ n = omega arith in rw e

-- from the front of one list to the front of another
pub copied-front : {A : Type 0} (d : A) (l s : List A) (n m : ℕ) → shared 0 l 0 s n ≡ m → copied d 0 l 0 s n ≡ filled m l (λ k. get_or s k d)
copied-front d l s n m e =
    laid_filled l (λ k. get_or s (0 + k) d) (shared 0 l 0 s n) ∙ (λ i. filled (e i) l (λ k. get_or s (0 + k) d)) ∙ filled_cong l _ _ m (λ k h. ap (λ (j : ℕ). get_or s j d) (zero-add k))
