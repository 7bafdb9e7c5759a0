-- R18.12: the lines of a hand, as the console plays them. Definitions only.
use Rattle.std.specs.Prelude.{ℕ, zero, suc, ◌+◌, ◌-◌, ◌%◌, cond, List, [], ◌∷◌, leb, length}
use Rattle.script.specs.declared.line.Words.{Words}
use Rattle.script.specs.Words.{firsts, no_words}
use Rattle.journal.specs.Lines.{Line, leading}
use Rattle.journal.specs.Hand.{blocks_in, word_count, word_given}
use Rattle.journal.specs.declared.reading.LineRead.{LineRead}
use Rattle.journal.specs.declared.reading.Numbers.{Numbers}

-- a line as it is played: its letter, how many numbers it has, and the first twenty
abbrev pub as_played : Line → Words
as_played l = record { letter = l.name; count = length l.numbers; numbers = firsts 20 l.numbers }

-- the entries that bytes tell of; none without a block
unfoldable pub count_given : List ℕ → ℕ
count_given b = cond (leb 1 (blocks_in b)) (word_count b) 0

-- n entries from a place on
unfoldable pub given_from : List ℕ → ℕ → ℕ → List ℕ
given_from b i zero = []
given_from b i (suc n) = word_given b i ∷ given_from b (suc i) n

abbrev pub rest_from : List ℕ → ℕ → ℕ → List ℕ
rest_from b i total = given_from b i (total - i)

unfoldable pub numbers_at : List ℕ → ℕ → ℕ → Numbers
numbers_at b from total = record { count = length (leading (rest_from b from total)); list = firsts 20 (leading (rest_from b from total)) }

-- the line that entries begin with; none where there is no entry
unfoldable pub line_from : ℕ → List ℕ → LineRead
line_from i [] = record { words = no_words; next = i }
line_from i (w ∷ ws) = record { words = as_played (record { name = w % 256; numbers = leading ws }); next = i + 1 + length (leading ws) }

unfoldable pub line_read : List ℕ → ℕ → LineRead
line_read b i = line_from i (rest_from b i (count_given b))
