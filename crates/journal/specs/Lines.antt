-- R18.5: entries that are script lines: "`t` stands first and nowhere else in a hand"; each line has its letter's count of numbers,
-- `t` at least four, `w` as many as the hand's `t` has stacks. Definitions only.
use Rattle.std.specs.Prelude.{ℕ, ◌+◌, ◌-◌, ◌/◌, Bool, true, false, cond, not, ◌&&◌, ◌||◌, List, [], ◌∷◌, ◌++◌, map, eqb, leb, length}
use Prim.Native.Char.{code}
use Rattle.script.specs.Ascii.{is}
use Rattle.journal.specs.Entry.{is_letter, is_number, letter, number, entry_word}

-- ---- lines
pub record Line : Type 0 where
  pub name : ℕ
  pub numbers : List ℕ

-- the count of numbers that a letter asks, where the hand has so many stacks
unfoldable pub count_ok : ℕ → ℕ → ℕ → Bool
count_ok l stacks count =
    cond (is l "t") (leb 4 count)
    (cond (is l "w") (eqb count stacks)
    (cond (is l "b" || is l "p") (eqb count 1)
    ((is l "n" || (is l "f" || is l "x")) && eqb count 0)))

unfoldable pub all_small : List ℕ → Bool
all_small [] = true
all_small (n ∷ ns) = leb n 65535 && all_small ns

unfoldable pub rest_ok : ℕ → List Line → Bool
rest_ok stacks [] = true
rest_ok stacks (l ∷ ls) = not (is l.name "t") && (count_ok l.name stacks (length l.numbers) && (all_small l.numbers && rest_ok stacks ls))

-- the lines of a hand
unfoldable pub lines_ok : List Line → Bool
lines_ok [] = false
lines_ok (t ∷ ls) = is t.name "t" && (leb 4 (length t.numbers) && (all_small t.numbers && rest_ok (length t.numbers - 4) ls))

-- lines as entries
abbrev pub line_words : Line → List ℕ
line_words l = entry_word (letter l.name) ∷ map (λ n. entry_word (number n)) l.numbers

unfoldable pub tape_of : List Line → List ℕ
tape_of [] = []
tape_of (l ∷ ls) = line_words l ++ tape_of ls

-- entries as lines: the numbers before the next letter, and the lines from it on
unfoldable pub leading : List ℕ → List ℕ
leading [] = []
leading (w ∷ ws) = cond (is_number w) (w / 65536 ∷ leading ws) []

unfoldable pub lines_of : List ℕ → List Line
lines_of [] = []
lines_of (w ∷ ws) = cond (is_number w) (lines_of ws) (record { name = w; numbers = leading ws } ∷ lines_of ws)

-- ---- whether entries are lines, read from left to right: the letter of the line that stands open, its numbers so far, the stacks of the hand
unfoldable pub allowed : ℕ → ℕ → ℕ → ℕ → Bool
allowed l count stacks w = is_number w || (is_letter w && (not (is w "t") && count_ok l stacks count))

unfoldable pub name_after : ℕ → ℕ → ℕ
name_after l w = cond (is_number w) l w

unfoldable pub count_after : ℕ → ℕ → ℕ
count_after count w = cond (is_number w) (count + 1) 0

-- the stacks known once the line is closed
unfoldable pub stacks_in : ℕ → ℕ → ℕ → ℕ
stacks_in l count stacks = cond (is l "t") (count - 4) stacks

unfoldable pub stacks_after : ℕ → ℕ → ℕ → ℕ → ℕ
stacks_after l count stacks w = cond (is_number w) stacks (stacks_in l count stacks)

unfoldable pub spelt : ℕ → ℕ → ℕ → List ℕ → Bool
spelt l count stacks [] = count_ok l stacks count
spelt l count stacks (w ∷ ws) = allowed l count stacks w && spelt (name_after l w) (count_after count w) (stacks_after l count stacks w) ws

unfoldable pub spells : List ℕ → Bool
spells [] = false
spells (w ∷ ws) = is w "t" && spelt (code "t") 0 0 ws
