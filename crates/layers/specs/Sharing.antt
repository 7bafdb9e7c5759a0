-- R11.9: how a layer is shared. The seat from which odd chips are given out, the first after the dealer, is here the seat `first`. Definitions only.
use Rattle.std.specs.Prelude.{ℕ, ◌+◌, ◌-◌, ◌/◌, ◌%◌, cond, leb, ltb}
use Rattle.seats.specs.Bits.{has, count_to}

-- how many of a set come ahead of seat i, going round n seats from the seat `first`
unfoldable pub ahead : ℕ → ℕ → ℕ → ℕ → ℕ
ahead n first s i = cond (leb first i) (count_to i s - count_to first s) (count_to n s - count_to first s + count_to i s)

-- what seat i gets of an amount that a set shares: equal parts, and the odd chips one each, going round from the seat `first`
unfoldable pub share_of : ℕ → ℕ → ℕ → ℕ → ℕ → ℕ
unfolding ahead
share_of n first s amount i =
    cond (has s i) (amount / count_to n s + cond (ltb (ahead n first s i) (amount % count_to n s)) 1 0) 0
