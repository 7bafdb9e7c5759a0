-- R2.9 to R2.13: lists of amounts, 16 places each, whose length stands beside them. Definitions only.
use Rattle.std.specs.Prelude.{ℕ, zero, suc, ◌+◌, min, Bool, false, cond, ◌||◌, List, get_or, length, replicate, Float}
use Rattle.std.specs.Float.{nan, binary32}
use Rattle.std.specs.Float.Ieee.{add, lt, is_nan}
use Rattle.floats.specs.Helpers.{zerof, max_of}
use Rattle.commons.specs.Filled.{filled}

abbrev pub zeros : List Float
zeros = replicate 16 zerof

-- R2.9: the first n places of a list, zeros after them; and zeros up to n, the list after them
abbrev pub kept_to : ℕ → List Float → List Float
kept_to n l = filled (min n 16) zeros (λ i. get_or l i nan)

abbrev pub cleared_to : ℕ → List Float → List Float
cleared_to n l = filled (min n 16) l (λ i. zerof)

-- R2.9: a slice of any length as such a list
abbrev pub of_slice : List Float → List Float
of_slice s = kept_to (length s) s

-- R2.10: the first k added, from place 0 on
unfoldable pub sum_of : ℕ → List Float → Float
sum_of zero l = zerof
sum_of (suc k) l = add binary32 (sum_of k l) (get_or l k nan)

-- R2.11: the largest of the first k, 0 at least; a NaN does not count
unfoldable pub largest_of : ℕ → List Float → Float
largest_of zero l = zerof
largest_of (suc k) l = max_of (largest_of k l) (get_or l k nan)

-- R2.12: how many of the first k are above 0
unfoldable pub above_of : ℕ → List Float → ℕ
above_of zero l = 0
above_of (suc k) l = above_of k l + cond (lt zerof (get_or l k nan)) 1 0

-- R2.13: below 0, or a NaN; and whether some of the first k is
abbrev pub invalid : Float → Bool
invalid x = lt x zerof || is_nan x

unfoldable pub any_invalid : ℕ → List Float → Bool
any_invalid zero l = false
any_invalid (suc k) l = any_invalid k l || invalid (get_or l k nan)
