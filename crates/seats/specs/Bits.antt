-- Section 1, seats, on the number that holds the set: seat i is the binary digit i. Definitions only.
use Rattle.std.specs.Prelude.{ℕ, zero, suc, ◌+◌, ◌-◌, ◌/◌, ◌%◌, ◌^◌, Bool, cond, eqb, ltb}
use Rattle.std.specs.Int.Bits.{bit_and, bit_or}
use Rattle.commons.specs.First.{first_from}

-- R1.1: seat i is in the set
unfoldable pub has : ℕ → ℕ → Bool
has s i = eqb (s / 2 ^ i % 2) 1

-- R1.2: the seats below n; all 16 from 16 on
unfoldable pub up_to : ℕ → ℕ
up_to n = cond (ltb n 16) (2 ^ n - 1) 0xffff

-- R1.6: how many of the seats below k are in the set
unfoldable pub count_to : ℕ → ℕ → ℕ
unfolding has
count_to zero s = 0
count_to (suc k) s = cond (has s k) 1 0 + count_to k s

-- R1.3, R1.4: the set with seat i, and without it; there is no seat from 16 on
unfoldable pub with : ℕ → ℕ → ℕ
with s i = cond (ltb i 16) (bit_or s (2 ^ i)) s

unfoldable pub without : ℕ → ℕ → ℕ
without s i = cond (ltb i 16) (bit_and s (0xffff - 2 ^ i)) s

-- R16.7: where a test holds
abbrev pub with_if : Bool → ℕ → ℕ → ℕ
with_if t s i = cond t (with s i) s

abbrev pub without_if : Bool → ℕ → ℕ → ℕ
without_if t s i = cond t (without s i) s

-- R16.7: the seats below n for which a test holds
unfoldable pub seats_where : ℕ → (ℕ → Bool) → ℕ
seats_where zero p = 0
seats_where (suc k) p = with_if (p k) (seats_where k p) k

-- R1.7: the first seat in the set from a place on, 16 where there is none
unfoldable pub next_from : ℕ → ℕ → ℕ
next_from s i = first_from 16 i 16 (has s)
