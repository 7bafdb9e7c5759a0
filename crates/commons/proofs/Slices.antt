-- A list by its places, as a chain of an iterator makes it from the first n elements of one or two lists; and a fold over such a list is the same fold over
-- the places below n. Assumes nothing.
use Prim.Native.Nat.{ℕ, zero, suc, ◌+◌, ◌<◌, ◌≤◌}
use native.Mathlib.Nat.{zero-add}
use native.Mathlib.Numerals.{add-one}
use native.Mathlib.Omega.{arith}
use mathlib.Core.Path.{◌≡◌, refl, sym, ap, ◌∙◌}
use mathlib.Core.Bool.{Bool, ◌&&◌, ◌||◌, or-false}
use mathlib.Core.List.{List, [], ◌∷◌}
use lib.ListN.{length, get_or, take}
use Rattle.std.specs.List.{fold, list_all, list_any, sum_by, zip, enumerate_from, range_with_len}
use Rattle.std.proofs.Common.{Option, None, Some}
use Rattle.std.specs.Iterator.{Yields}
use Rattle.std.proofs.lemmas.Iterator.{YieldsList}
use Rattle.std.proofs.lemmas.Iterator.Consumers.{YieldsList-turn, YieldsList-end}
use Rattle.std.proofs.lemmas.List.{take_more, take_all, get_or-take, get_or_default, length-take-le}
use Rattle.std.proofs.lemmas.List.Folds.{list_any-append, list_all_more}
use Rattle.std.proofs.lemmas.List.FromFn.{length-enumerate_from, get_or-enumerate_from, length-range_with_len, get_or-range_with_len}
use Rattle.std.proofs.lemmas.List.Sums.{fold_more, sum_by_more}
use Rattle.std.proofs.lemmas.Slice.Zip.{length-zip, get_or-zip}
use Rattle.commons.specs.Folds.{sum_to, all_to, any_to}

-- l has n places, and f k at place k
pub record Places {A : Type 0} (d : A) (l : List A) (n : ℕ) (f : ℕ → A) : Type 0 where
  pub long : length l ≡ n
  pub at : (k : ℕ) → k < n → get_or l k d ≡ f k

-- ---- what a chain goes over
pub front : {A : Type 0} (d : A) (l : List A) (n : ℕ) → n ≤ length l → Places d (take n l) n (λ k. get_or l k d)
front d l n h = record { long = length-take-le n l h; at = λ k b. get_or-take n l k d b }

pub zipped : {A B : Type 0} {d : A} {e : B} {l : List A} {m : List B} {n : ℕ} {f : ℕ → A} {g : ℕ → B} → Places d l n f → Places e m n g → Places (d, e) (zip l m) n (λ k. (f k, g k))
zipped {d} {e} {l} {m} p q =
    record {
      long = length-zip l m ∙ omega (arith, p.long, q.long);
      at = λ k b. get_or-zip l m k (d, e) (omega (arith, p.long)) (omega (arith, q.long)) ∙ (λ i. (p.at k b i, q.at k b i));
    }

pub counted : {A : Type 0} {d : A} {l : List A} {n : ℕ} {f : ℕ → A} → Places d l n f → Places (0, d) (enumerate_from 0 l) n (λ k. (k, f k))
counted {d} {l} p =
    record {
      long = length-enumerate_from 0 l ∙ p.long;
      at = λ k b. get_or-enumerate_from 0 l k (0, d) (omega (arith, p.long)) ∙ (λ i. (zero-add k i, p.at k b i));
    }

pub ranged : (n : ℕ) → Places 0 (range_with_len 0 n) n (λ k. k)
ranged n = record { long = length-range_with_len 0 n; at = λ k b. get_or-range_with_len 0 n k 0 b ∙ zero-add k }

-- ---- folds over its places
module _ {A : Type 0} {d : A} {l : List A} {n : ℕ} {f : ℕ → A} (s : Places d l n f) where
  whole : take n l ≡ l
  whole = take_all n l (omega (arith, s.long))

  all_upto : (p : A → Bool) (k : ℕ) → k ≤ n → list_all p (take k l) ≡ all_to k (λ i. p (f i))
  unfolding all_to
  all_upto p zero h = refl
  all_upto p (suc k) h =
      rw (← add-one k) (list_all_more p l k d (omega (arith, s.long)))
      ∙ (λ i. all_upto p k (omega arith) i && p (s.at k (omega arith) i))

  pub all-places : (p : A → Bool) → list_all p l ≡ all_to n (λ i. p (f i))
  all-places p = ap (list_all p) (sym whole) ∙ all_upto p n (omega arith)

  any_more : (p : A → Bool) (k : ℕ) → k < length l → list_any p (take (k + 1) l) ≡ (list_any p (take k l) || p (get_or l k d))
  any_more p k h =
      ap (list_any p) (take_more l k d h)
      ∙ list_any-append p (take k l) (get_or l k d ∷ [])
      ∙ ap (λ (b : Bool). list_any p (take k l) || b) (or-false (p (get_or l k d)))

  any_upto : (p : A → Bool) (k : ℕ) → k ≤ n → list_any p (take k l) ≡ any_to k (λ i. p (f i))
  unfolding any_to
  any_upto p zero h = refl
  any_upto p (suc k) h =
      rw (← add-one k) (any_more p k (omega (arith, s.long)))
      ∙ (λ i. any_upto p k (omega arith) i || p (s.at k (omega arith) i))

  pub any-places : (p : A → Bool) → list_any p l ≡ any_to n (λ i. p (f i))
  any-places p = ap (list_any p) (sym whole) ∙ any_upto p n (omega arith)

  sum_upto : (g : A → ℕ) (k : ℕ) → k ≤ n → sum_by g (take k l) ≡ sum_to k (λ i. g (f i))
  unfolding sum_to
  sum_upto g zero h = refl
  sum_upto g (suc k) h =
      rw (← add-one k) (sum_by_more g l k d (omega (arith, s.long)))
      ∙ (λ i. sum_upto g k (omega arith) i + g (s.at k (omega arith) i))

  pub sum-places : (g : A → ℕ) → sum_by g l ≡ sum_to n (λ i. g (f i))
  sum-places g = ap (sum_by g) (sym whole) ∙ sum_upto g n (omega arith)

  -- any other fold, by what it has come to at each place
  fold_upto : {B : Type 0} (step : B → A → B) (r : ℕ → B) → ((k : ℕ) → k < n → r (suc k) ≡ step (r k) (f k)) → (k : ℕ) → k ≤ n → fold step (r 0) (take k l) ≡ r k
  fold_upto step r e zero h = refl
  fold_upto step r e (suc k) h =
      rw (← add-one k) (fold_more step (r 0) l k d (omega (arith, s.long)))
      ∙ (λ i. step (fold_upto step r e k (omega arith) i) (s.at k (omega arith) i))
      ∙ sym (e k (omega arith))

  pub fold-places : {B : Type 0} (step : B → A → B) (r : ℕ → B) → ((k : ℕ) → k < n → r (suc k) ≡ step (r k) (f k)) → fold step (r 0) l ≡ r n
  fold-places step r e = ap (fold step (r 0)) (sym whole) ∙ fold_upto step r e n (omega arith)

  -- ---- a `for` over a chain that gives the list: when it has given xs, what it gives next stands at the next place, and at its end it has given all
  module _ {S C : Type 0} {steps : S → Option C → S → Type 0} {v : C → A} {b : S} (road : YieldsList steps v b l) (xs : List C) (t : S) (y : Yields steps b xs t) (r : Option C) (u : S) where
    pub at_turn : (x : C) → r ≡ Some x → steps t r u → (length xs < n) × (v x ≡ f (length xs))
    at_turn x a e =
        let w = YieldsList-turn road xs t y r u x a e in
        let low : length xs < n = omega (arith, w.0, s.long) in
        (low, w.1 ∙ get_or_default l (length xs) (v x) d w.0 ∙ s.at (length xs) low)

    pub at_end : r ≡ None → steps t r u → length xs ≡ n
    at_end a e = (YieldsList-end road xs t y r u a e).1 ∙ s.long
