-- R18.1: "An entry is the script letter and three zero bytes, or two zero bytes and a 16-bit number" (document 02). An entry is held as the 32-bit
-- number that its four bytes spell, the lowest first: a letter is itself, a number is 65,536 times itself. Definitions only.
use Rattle.std.specs.Prelude.{ℕ, ◌+◌, ◌*◌, ◌/◌, ◌%◌, Bool, ◌||◌, List, [], ◌∷◌, ◌++◌, eqb}
use Rattle.script.specs.Ascii.{is}
use Rattle.journal.specs.Check.{byte}

pub data Entry : Type 0 where
  letter : ℕ → Entry
  number : ℕ → Entry

abbrev pub entry_bytes : Entry → List ℕ
entry_bytes (letter l) = l ∷ 0 ∷ 0 ∷ 0 ∷ []
entry_bytes (number n) = 0 ∷ 0 ∷ n % 256 ∷ n / 256 ∷ []

abbrev pub entry_word : Entry → ℕ
entry_word (letter l) = l
entry_word (number n) = n * 65536

-- the two and the four bytes of a number, the lowest first
unfoldable pub two_bytes : ℕ → List ℕ
two_bytes n = n % 256 ∷ n / 256 ∷ []

unfoldable pub four_bytes : ℕ → List ℕ
four_bytes w = w % 256 ∷ w / 256 % 256 ∷ w / 65536 % 256 ∷ w / 16777216 ∷ []

unfoldable pub two_at : List ℕ → ℕ → ℕ
two_at b i = byte b i + byte b (i + 1) * 256

unfoldable pub four_at : List ℕ → ℕ → ℕ
four_at b i = byte b i + byte b (i + 1) * 256 + byte b (i + 2) * 65536 + byte b (i + 3) * 16777216

unfoldable pub all_bytes : List ℕ → List ℕ
all_bytes [] = []
all_bytes (w ∷ ws) = four_bytes w ++ all_bytes ws

-- a letter that stands in a hand
unfoldable pub is_letter : ℕ → Bool
is_letter w = is w "t" || (is w "n" || (is w "f" || (is w "b" || (is w "p" || (is w "x" || is w "w")))))

-- a number of 16 bits stands in the upper half
unfoldable pub is_number : ℕ → Bool
is_number w = eqb (w % 65536) 0

unfoldable pub is_entry : ℕ → Bool
is_entry w = is_number w || is_letter w
