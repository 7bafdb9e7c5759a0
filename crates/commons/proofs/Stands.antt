-- Whether one list stands in another: no where it is too long for it, else as the places say, which the library tells from the front. Assumes nothing.
use Prim.Native.Nat.{ℕ, ◌+◌, ◌-◌, ◌<◌, ◌≤◌}
use native.Mathlib.Omega.{arith}
use mathlib.Core.Path.{◌≡◌, refl, sym, ap, ◌∙◌}
use mathlib.Core.Bool.{Bool, false, ◌&&◌}
use mathlib.Core.Logic.{⊎_elim}
use mathlib.Core.List.{List, [], ◌∷◌}
use lib.Dec.{eqb}
use lib.ListN.{get_or, length, take, drop}
use borrow.Author.Tests.{le-leb, lt-leb}
use Rattle.std.specs.List.{starts_with, slice_range}
use Rattle.std.specs.Cmp.Lexicographic.{pointwise}
use Rattle.std.proofs.Common.{rules}
use Rattle.std.proofs.lemmas.List.{length-take, length-drop}
use Rattle.std.proofs.lemmas.List.Edits.{get_or-between}
use Rattle.commons.specs.Folds.{all_to}
use Rattle.commons.specs.Stands.{stands_at}
use Rattle.commons.proofs.Bools.{and-false}
use Rattle.commons.proofs.Folds.{all_first, all_alike}
use Rattle.commons.proofs.Order.{lt_or_le}

eqb-swap : (a b : ℕ) → eqb a b ≡ eqb b a
eqb-swap a b = search rules

-- the library's test of a list that is long enough, place by place
by-front : (s xs : List ℕ) → length s ≤ length xs → pointwise (λ x y. eqb x y) s (take (length s) xs) ≡ all_to (length s) (λ k. eqb (get_or xs k 0) (get_or s k 0))
unfolding all_to
by-front [] xs h = refl
by-front (y ∷ s) [] h = absurd (omega arith)
by-front (y ∷ s) (x ∷ xs) h =
    (λ j. eqb-swap y x j && by-front s xs (omega arith) j)
    ∙ sym (all_first (length s) (λ k. eqb (get_or (x ∷ xs) k 0) (get_or (y ∷ s) k 0)))

-- of a list too short it says no
by-short : (s xs : List ℕ) → length xs < length s → pointwise (λ x y. eqb x y) s (take (length s) xs) ≡ false
by-short [] xs h = absurd (omega arith)
by-short (y ∷ s) [] h = refl
by-short (y ∷ s) (x ∷ xs) h = (λ j. eqb y x && by-short s xs (omega arith) j) ∙ and-false (eqb y x)

module _ (l : List ℕ) (at : ℕ) (s : List ℕ) where
  pub no_room_lem : length l < at + length s → false ≡ stands_at l at s
  no_room_lem h = simp (lt-leb _ _ h)

  -- in what lies from `at` on
  pub in-rest : at ≤ length l → (m : Bool) → m ≡ starts_with (λ x y. eqb x y) (slice_range l at (length l)) s → m ≡ stands_at l at s
  in-rest h m e =
      let rest : List ℕ = slice_range l at (length l) in
      let long : length rest ≡ length l - at = omega (arith, length-take (length l - at) (drop at l), length-drop at l) in
      ⊎_elim
      (λ (g : length rest < length s). e ∙ by-short s rest g ∙ no_room_lem (omega arith))
      (λ (g : length s ≤ length rest). e ∙ by-front s rest g ∙ all_alike (length s) _ _ (λ k b. ap (λ (x : ℕ). eqb x (get_or s k 0)) (get_or-between l at (length l) k 0 (omega arith))) ∙ simp (le-leb (at + length s) (length l) (omega arith)))
      (lt_or_le (length rest) (length s))
