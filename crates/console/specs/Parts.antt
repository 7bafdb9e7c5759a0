-- R12.12: what a script prints from a place on into a buffer of so many places. A line is played only while 72 places, which hold
-- any line, are left. Definitions only.
use Rattle.std.specs.Prelude.{ℕ, ◌+◌, ◌-◌, cond, ◌||◌, List, [], ◌∷◌, ◌++◌, length, drop, nat_le, nat_lt}
use Rattle.script.specs.Split.{lines}
use Rattle.script.specs.Words.{words_of}
use Rattle.console.specs.declared.play.Console.{Console}
use Rattle.console.specs.declared.play.Played.{Played}
use Rattle.console.specs.Play.{said, after, too_long_line}

-- the bytes of a part, and the place and the console where it ends
pub record Part : Type 0 where
  pub bytes : List ℕ
  pub at : ℕ
  pub console : Console

abbrev pub part_is : List ℕ → ℕ → Console → Part
part_is bs at c = record { bytes = bs; at = at; console = c }

abbrev pub ahead : List ℕ → Part → Part
ahead bs p = part_is (bs ++ p.bytes) p.at p.console

-- these lines, the first of which stands at a place; a line ends one byte past its own
unfoldable pub part_of : ℕ → ℕ → Console → List (List ℕ) → Part
part_of room at c [] = part_is [] at c
part_of room at c (l ∷ ls) =
    let s = said c (words_of l) in
    cond (nat_lt room 72) (part_is [] at c) (ahead s (part_of (room - length s) (at + length l + 1) (after c (words_of l)) ls))

abbrev pub part_from : List ℕ → ℕ → Console → ℕ → Part
part_from s at c room = part_of room at c (lines (drop at s))

-- of a script of n bytes that is too long: the one line
unfoldable pub refused_part : ℕ → ℕ → Console → ℕ → Part
refused_part n at c room = cond (nat_le n at || nat_lt room 72) (part_is [] at c) (part_is too_long_line n c)

unfoldable pub script_part : List ℕ → ℕ → Console → ℕ → Part
script_part s at c room = cond (nat_le (length s) 65536) (part_from s at c room) (refused_part (length s) at c room)

-- what the code answers of a part, and the bytes over the front of a buffer
abbrev pub played_of : Part → Played
played_of p = record { at = p.at; console = p.console; len = length p.bytes }

abbrev pub over : List ℕ → List ℕ → List ℕ
over bs d = bs ++ drop (length bs) d
