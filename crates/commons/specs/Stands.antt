-- R16.6: whether one list stands in another from a place on. Definitions only.
use Rattle.std.specs.Prelude.{ℕ, ◌+◌, Bool, ◌&&◌, List, leb, eqb, get_or, length}
use Rattle.commons.specs.Folds.{all_to}

abbrev pub stands_at : List ℕ → ℕ → List ℕ → Bool
stands_at l at s = leb (at + length s) (length l) && all_to (length s) (λ k. eqb (get_or l (at + k) 0) (get_or s k 0))
