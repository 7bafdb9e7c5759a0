-- Laws of lists that are tested or overwritten part by part. Assumes nothing.
use Prim.Native.Nat.{ℕ, zero, suc, ◌+◌, ◌-◌, ◌≤◌}
use native.Mathlib.Numerals.{add-one}
use native.Mathlib.Omega.{arith}
use mathlib.Core.Path.{◌≡◌, refl, sym, ap, ◌∙◌}
use mathlib.Core.Bool.{Bool}
use mathlib.Core.List.{List, [], ◌∷◌}
use lib.ListN.{length, get_or, set, take, drop, length-drop}
use lib.Seq.{get_or-drop, take-length}
use borrow.Rule.Slice.PartMut.{put_mid}
use Rattle.std.specs.List.{list_all}
use Rattle.std.proofs.lemmas.List.Folds.{list_all_more}
use Rattle.commons.specs.Folds.{all_to}

-- the first k pass, told by their places
all_first : (p : ℕ → Bool) (xs : List ℕ) (k : ℕ) → k ≤ length xs → list_all p (take k xs) ≡ all_to k (λ i. p (get_or xs i 0))
unfolding all_to
all_first p xs zero h = refl
all_first p xs (suc k) h = ap (λ (n : ℕ). list_all p (take n xs)) (sym (add-one k)) ∙ list_all_more p xs k 0 (omega arith) ∙ rw (all_first p xs k (omega arith))

pub all_whole : (p : ℕ → Bool) (xs : List ℕ) → list_all p xs ≡ all_to (length xs) (λ i. p (get_or xs i 0))
all_whole p xs = ap (list_all p) (sym (take-length xs)) ∙ all_first p xs (length xs) (omega arith)

pub all_part : (p : ℕ → Bool) (xs : List ℕ) (at n : ℕ) → at + n ≤ length xs → list_all p (take (at + n - at) (drop at xs)) ≡ all_to n (λ i. p (get_or xs (at + i) 0))
all_part p xs at n h =
    let e : at + n - at ≡ n = omega arith in
    rw e (all_first p (drop at xs) n (omega (arith, length-drop at xs)) ∙ (λ j. all_to n (λ i. p (get_or-drop at xs i 0 j))))

-- four places laid at once
pub four_laid : (xs : List ℕ) (i a b c d : ℕ) → i + 4 ≤ length xs → put_mid i (i + 4 - i) xs (a ∷ b ∷ c ∷ d ∷ []) ≡ set (set (set (set xs i a) (i + 1) b) (i + 2) c) (i + 3) d
four_laid xs i a b c d h =
    let e : i + 4 - i ≡ 4 = omega arith in
    let e1 : i + 1 ≡ suc i = omega arith in
    let e2 : i + 2 ≡ suc (suc i) = omega arith in
    let e3 : i + 3 ≡ suc (suc (suc i)) = omega arith in
    rw (e, e1, e2, e3) (at xs i h)
  where
    at : (xs : List ℕ) (i : ℕ) → i + 4 ≤ length xs → put_mid i 4 xs (a ∷ b ∷ c ∷ d ∷ []) ≡ set (set (set (set xs i a) (suc i) b) (suc (suc i)) c) (suc (suc (suc i))) d
    at (p ∷ q ∷ r ∷ s ∷ xs) zero h = refl
    at [] zero h = absurd (omega arith)
    at (p ∷ []) zero h = absurd (omega arith)
    at (p ∷ q ∷ []) zero h = absurd (omega arith)
    at (p ∷ q ∷ r ∷ []) zero h = absurd (omega arith)
    at [] (suc i) h = absurd (omega arith)
    at (x ∷ xs) (suc i) h = ap (λ (l : List ℕ). x ∷ l) (at xs i (omega arith))
