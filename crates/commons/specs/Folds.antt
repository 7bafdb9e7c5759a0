-- R16.3: the places below n taken together: their sum, whether all pass, whether one passes, and the largest of those that pass. Definitions only.
use Rattle.std.specs.Prelude.{ℕ, zero, suc, ◌+◌, max, Bool, true, false, cond, ◌&&◌, ◌||◌}

unfoldable pub sum_to : ℕ → (ℕ → ℕ) → ℕ
sum_to zero f = 0
sum_to (suc n) f = sum_to n f + f n

unfoldable pub all_to : ℕ → (ℕ → Bool) → Bool
all_to zero p = true
all_to (suc n) p = all_to n p && p n

unfoldable pub any_to : ℕ → (ℕ → Bool) → Bool
any_to zero p = false
any_to (suc k) p = any_to k p || p k

-- 0 where none passes
unfoldable pub most_to : ℕ → (ℕ → Bool) → (ℕ → ℕ) → ℕ
most_to zero p f = 0
most_to (suc k) p f = max (most_to k p f) (cond (p k) (f k) 0)
