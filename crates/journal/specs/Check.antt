-- R18.3: "Byte 510 is the sum of bytes 0 to 509 modulo 255; byte 511 is the sum modulo 255 of the running totals taken after each byte" (document 02).
-- Definitions only.
use Rattle.std.specs.Prelude.{ℕ, zero, suc, ◌+◌, ◌%◌, cond, List, leb, get_or, length}
use Rattle.journal.specs.declared.sums.Check.{Check}

abbrev pub byte : List ℕ → ℕ → ℕ
byte b i = get_or b i 0

-- the sum of the first k bytes: the running total after the k-th
unfoldable pub sum_of : ℕ → List ℕ → ℕ
sum_of zero b = 0
sum_of (suc k) b = sum_of k b + byte b k

-- the sum of the first k running totals
unfoldable pub run_of : ℕ → List ℕ → ℕ
run_of zero b = 0
run_of (suc k) b = run_of k b + sum_of (suc k) b

unfoldable pub sum_check : List ℕ → ℕ
sum_check b = sum_of 510 b % 255

unfoldable pub run_check : List ℕ → ℕ
run_check b = run_of 510 b % 255

abbrev pub check_of : List ℕ → Check
check_of b = record { sum = sum_check b; run = run_check b }

-- the check of a block, zeros for what is shorter than what it sums
unfoldable pub check_given : List ℕ → Check
check_given b = cond (leb 510 (length b)) (check_of b) (record { sum = 0; run = 0 })
