-- R16.4: the first place at which a test holds. Definitions only.
use Rattle.std.specs.Prelude.{ℕ, zero, suc, Bool, cond}

-- of the k places from d on; `other` where it holds at none of them
unfoldable pub first_from : ℕ → ℕ → ℕ → (ℕ → Bool) → ℕ
first_from zero d other p = other
first_from (suc k) d other p = cond (p d) d (first_from k (suc d) other p)
