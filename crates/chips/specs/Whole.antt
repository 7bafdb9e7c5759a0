-- R10.1: amounts that are whole numbers 0 to 8,000; -0.0 is 0. Definitions only.
use Rattle.std.specs.Prelude.{ℕ, ◌/◌, ◌%◌, Bool, cond, ◌&&◌, List, pos, ◌==◌, slice_index_or, Float}
use Rattle.std.specs.Float.{nan, binary32}
use Rattle.std.specs.Float.Ieee.{le, of_int}
use Rattle.std.specs.Float.Ieee.Positive.{num, den}
use Rattle.floats.specs.Helpers.{zerof}
use Rattle.commons.specs.Folds.{sum_to, all_to}

-- R10.1, R10.7: the most chips that a table in good order holds
abbrev pub most : ℕ
most = 8000

-- from 0 to 8,000
abbrev pub in_range : Float → Bool
in_range x = le zerof x && le x (of_int binary32 (pos most))

-- and with no fraction: x is num x / den x in size
unfoldable pub is_whole : Float → Bool
is_whole x = in_range x && num x % den x == 0

-- how many chips; 0 where the amount is not whole
unfoldable pub chips_in : Float → ℕ
chips_in x = cond (is_whole x) (num x / den x) 0

-- the first n places of a list. Past its end stands a NaN: not whole, and no chips
unfoldable pub all_whole : List Float → ℕ → Bool
all_whole l n = all_to n (λ i. is_whole (slice_index_or l i nan))

unfoldable pub sum_chips : List Float → ℕ → ℕ
sum_chips l n = sum_to n (λ i. chips_in (slice_index_or l i nan))
