-- R15.2: a number or a float of a host's list as what it stands for, and back. Definitions only.
use Rattle.std.specs.Prelude.{ℕ, zero, suc, ◌%◌, Bool, cond, List, eqb, get_or, Float}
use Rattle.std.specs.Float.{nan}
use Rattle.commons.specs.Filled.{copied}
use Rattle.amounts.specs.Amounts.{zeros}
use Rattle.rounds.specs.declared.Round.{Round}
use Rattle.rounds.specs.declared.Round.TheVariants.{Starting}
use Rattle.rounds.specs.Order.{next_of}

-- ---- in: a word as a number, as a set of seats, as a byte, as a yes or no
abbrev pub word_at : List ℕ → ℕ → ℕ
word_at ns k = get_or ns k 0

abbrev pub set_at : List ℕ → ℕ → ℕ
set_at ns k = word_at ns k % 65536

abbrev pub byte_at : List ℕ → ℕ → ℕ
byte_at ns k = word_at ns k % 256

abbrev pub flag_at : List ℕ → ℕ → Bool
flag_at ns k = eqb (word_at ns k) 1

-- the round of a number: so many after the first
unfoldable pub round_of : ℕ → Round
round_of zero = Starting
round_of (suc k) = next_of (round_of k)

abbrev pub round_at : List ℕ → ℕ → Round
round_at ns k = round_of (word_at ns k)

-- a float, and the sixteen from a place on; zeros where it has no more
abbrev pub float_at : List Float → ℕ → Float
float_at fs k = get_or fs k nan

abbrev pub sixteen_at : List Float → ℕ → List Float
sixteen_at fs k = copied nan 0 zeros k fs 16

-- ---- out: a number as a word, a yes or no as a word
abbrev pub word_of : ℕ → ℕ
word_of n = n % 4294967296

abbrev pub flag_of : Bool → ℕ
flag_of b = cond b 1 0
