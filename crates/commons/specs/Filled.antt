-- R16.5: lists of which some places are given by a rule, and the others are kept. Definitions only.
use Rattle.std.specs.Prelude.{ℕ, zero, suc, ◌+◌, ◌-◌, min, List, get_or, set, length}

-- the first k places
unfoldable pub filled : {A : Type 0} → ℕ → List A → (ℕ → A) → List A
filled zero l f = l
filled (suc k) l f = set (filled k l f) k (f k)

-- k places from `at` on
unfoldable pub laid : {A : Type 0} → ℕ → ℕ → List A → (ℕ → A) → List A
laid at zero l f = l
laid at (suc k) l f = set (laid at k l f) (at + k) (f k)

-- how many of n places both lists have, one from `at` on, the other from `from` on
abbrev pub shared : {A B : Type 0} → ℕ → List A → ℕ → List B → ℕ → ℕ
shared at l from s n = min n (min (length s - from) (length l - at))

-- so many places of s, from `from` on, over those of l from `at` on; what does not fit is left out
abbrev pub copied : {A : Type 0} → A → ℕ → List A → ℕ → List A → ℕ → List A
copied d at l from s n = laid at (shared at l from s n) l (λ k. get_or s (from + k) d)
