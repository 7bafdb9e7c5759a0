-- The sixteen floats from a place on: what each of them is, and that they are as they were where nothing there was stored. Assumes nothing.
use Prim.Native.Nat.{ℕ, ◌+◌, ◌<◌, ◌≤◌}
use native.Mathlib.Omega.{arith}
use mathlib.Core.Path.{◌≡◌, refl, sym, subst, ◌∙◌}
use mathlib.Core.Logic.{◌≢◌, ◌⊎◌, inl, inr, ⊎_elim}
use mathlib.Core.Bool.{Bool, true, false}
use mathlib.Core.List.{List}
use lib.Dec.{eqb}
use borrow.Author.Tests.{eqb-true, eqb-false}
use lib.ListN.{get_or, set, length, length-set}
use lib.Seq.{ext_get_or, get_or-set_same, get_or-set_other}
use lib.Ieee.{Float, nan}
use Rattle.commons.specs.Filled.{filled, laid, shared}
use Rattle.commons.proofs.Filled.{filled_at, filled_cong, laid-long, laid_filled, laid_out, laid-at, copied-whole}
use Rattle.amounts.specs.Amounts.{zeros}
use Rattle.layout.specs.Words.{float_at, sixteen_at}
use Rattle.layout.specs.Laid.{laid_list}

module _ (fs : List Float) (o : ℕ) where
  pub sixteen_long : length (sixteen_at fs o) ≡ 16
  sixteen_long = laid-long 0 zeros (λ i. get_or fs (o + i) nan) (shared 0 zeros o fs 16)

  module _ (room : o + 16 ≤ length fs) where
    sixteen_is : sixteen_at fs o ≡ filled 16 zeros (λ i. float_at fs (o + i))
    sixteen_is = copied-whole nan 0 zeros o fs 16 (omega arith) room ∙ laid_filled zeros (λ i. float_at fs (o + i)) 16

    pub sixteen_read : (i : ℕ) → i < 16 → get_or (sixteen_at fs o) i nan ≡ float_at fs (o + i)
    sixteen_read i h = (λ j. get_or (sixteen_is j) i nan) ∙ filled_at zeros (λ k. float_at fs (o + k)) 16 i nan h (omega arith)

    -- of another list that has the same there
    pub sixteen_same : (gs : List Float) → o + 16 ≤ length gs → ((i : ℕ) → i < 16 → float_at gs (o + i) ≡ float_at fs (o + i)) → sixteen_at gs o ≡ sixteen_at fs o
    sixteen_same gs long e =
        copied-whole nan 0 zeros o gs 16 (omega arith) long
        ∙ laid_filled zeros (λ i. float_at gs (o + i)) 16
        ∙ filled_cong zeros (λ i. float_at gs (o + i)) (λ i. float_at fs (o + i)) 16 e
        ∙ sym sixteen_is

    -- a list of sixteen that has the same
    pub sixteen_all : (l : List Float) → length l ≡ 16 → ((i : ℕ) → i < 16 → float_at fs (o + i) ≡ get_or l i nan) → sixteen_at fs o ≡ l
    sixteen_all l long e =
        ext_get_or nan _ _ (sixteen_long ∙ sym long)
        (λ k b. let c = subst (λ (n : ℕ). k < n) sixteen_long b in sixteen_read k c ∙ e k c)

-- ---- after a store
pub same_or : (k i : ℕ) → (k ≡ i) ⊎ (k ≢ i)
same_or k i = by (eqb k i) refl
  where
    by : (t : Bool) → eqb k i ≡ t → (k ≡ i) ⊎ (k ≢ i)
    by true e = inl (eqb-true k i e)
    by false e = inr (eqb-false k i e)

module _ (fs : List Float) (o : ℕ) (room : o + 16 ≤ length fs) where
  pub stored_apart : (p : ℕ) (x : Float) → ((k : ℕ) → k < 16 → o + k ≡ p → ⊥) → sixteen_at (set fs p x) o ≡ sixteen_at fs o
  stored_apart p x h = sixteen_same fs o room (set fs p x) (omega (arith, length-set fs p x)) (λ k b. get_or-set_other fs p (o + k) x nan (h k b))

  -- one of them is stored
  pub stored-within : (i : ℕ) (x : Float) → i < 16 → sixteen_at (set fs (o + i) x) o ≡ set (sixteen_at fs o) i x
  stored-within i x low =
      sixteen_all (set fs (o + i) x) o (omega (arith, length-set fs (o + i) x)) (set (sixteen_at fs o) i x) (length-set (sixteen_at fs o) i x ∙ sixteen_long fs o)
      (λ k b. ⊎_elim (λ e. here k e) (λ n. there k b n) (same_or k i))
    where
      here : (k : ℕ) → k ≡ i → float_at (set fs (o + i) x) (o + k) ≡ get_or (set (sixteen_at fs o) i x) k nan
      here k e =
          (λ j. float_at (set fs (o + i) x) (o + e j))
          ∙ get_or-set_same fs (o + i) x nan (omega arith)
          ∙ sym (get_or-set_same (sixteen_at fs o) i x nan (omega (arith, sixteen_long fs o)))
          ∙ λ j. get_or (set (sixteen_at fs o) i x) (sym e j) nan

      there : (k : ℕ) → k < 16 → k ≢ i → float_at (set fs (o + i) x) (o + k) ≡ get_or (set (sixteen_at fs o) i x) k nan
      there k b n =
          get_or-set_other fs (o + i) (o + k) x nan (λ e. n (omega arith)) ∙ sym (sixteen_read fs o room k b) ∙ sym (get_or-set_other (sixteen_at fs o) i k x nan n)

-- ---- after a list was laid
pub list-long : (at : ℕ) (l fs : List Float) → length (laid_list at l fs) ≡ length fs
list-long at l fs = laid-long at fs (λ k. get_or l (0 + k) nan) (shared at fs 0 l 16)

module _ (at : ℕ) (l fs : List Float) (long : length l ≡ 16) (room : at + 16 ≤ length fs) where
  list-is : laid_list at l fs ≡ laid at 16 fs (λ k. get_or l (0 + k) nan)
  list-is = copied-whole nan at fs 0 l 16 room (omega arith)

  pub list-out : (j : ℕ) → ((k : ℕ) → k < 16 → j ≡ at + k → ⊥) → float_at (laid_list at l fs) j ≡ float_at fs j
  list-out j h = (λ i. float_at (list-is i) j) ∙ laid_out at fs (λ k. get_or l (0 + k) nan) 16 j nan h

  pub list_apart : (o : ℕ) → o + 16 ≤ length fs → ((j k : ℕ) → j < 16 → k < 16 → o + j ≡ at + k → ⊥) → sixteen_at (laid_list at l fs) o ≡ sixteen_at fs o
  list_apart o here h = sixteen_same fs o here (laid_list at l fs) (omega (arith, list-long at l fs)) (λ j b. list-out (o + j) (λ k c. h j k b c))

  pub list_back : sixteen_at (laid_list at l fs) at ≡ l
  list_back =
      sixteen_all (laid_list at l fs) at (omega (arith, list-long at l fs)) l long
      (λ i h. (λ j. float_at (list-is j) (at + i)) ∙ laid-at at fs (λ k. get_or l (0 + k) nan) 16 i nan h room ∙ let e : 0 + i ≡ i = omega arith in rw e)
