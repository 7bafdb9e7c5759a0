-- A list of tests of which all hold: each of them does, by its place in the list; and the other way round. Assumes nothing.
use Prim.Native.Nat.{ℕ, zero, suc}
use mathlib.Core.Bool.{Bool, true, ◌&&◌}
use mathlib.Core.Path.{◌≡◌, refl}
use mathlib.Core.List.{List, [], ◌∷◌}
use lib.ListN.{get_or}
use Rattle.commons.specs.Tests.{all_of}
use Rattle.commons.proofs.Bools.{and_both}

-- the test at place k; past the last there is nothing to hold
pub test_at : (ts : List Bool) → all_of ts ≡ true → (k : ℕ) → get_or ts k true ≡ true
test_at [] p k = refl
test_at (t ∷ []) p zero = p
test_at (t ∷ []) p (suc k) = refl
test_at (t ∷ u ∷ ts) p zero = (and_both t (all_of (u ∷ ts)) p).0
test_at (t ∷ u ∷ ts) p (suc k) = test_at (u ∷ ts) (and_both t (all_of (u ∷ ts)) p).1 k

pub all-tests : (ts : List Bool) → ((k : ℕ) → get_or ts k true ≡ true) → all_of ts ≡ true
all-tests [] h = refl
all-tests (t ∷ []) h = h 0
all-tests (t ∷ u ∷ ts) h = λ i. both (h 0 i) (all-tests (u ∷ ts) (λ k. h (suc k)) i)
  where
    both : Bool → Bool → Bool
    both a b = a && b
