-- R18.14, R18.15: the lines of a hand as entries of the journal, and how many of them a tape holds. Definitions only.
use Rattle.std.specs.Prelude.{ℕ, ◌-◌, Bool, cond, List, [], ◌∷◌, map, ltb, leb, length, take}
use Rattle.keys.specs.declared.HandKey.{HandKey}
use Rattle.script.specs.declared.line.Words.{Words}
use Rattle.journal.specs.declared.block.Title.{Title}
use Rattle.journal.specs.Lines.{Line, line_words, tape_of}

-- a line as the journal holds it
abbrev pub line_of : Words → Line
line_of w = record { name = w.letter; numbers = take w.count w.numbers }

abbrev pub entries_of : List Words → List ℕ
entries_of ws = tape_of (map line_of ws)

-- a script plays the rules of edition 1
abbrev pub title_of : HandKey → Title
title_of k = record { key = k; edition = 1 }

-- the first lines that so many places hold: once one finds no room, nothing more is laid
unfoldable pub held : ℕ → List Words → List Words
held room [] = []
held room (w ∷ ws) =
    let size = length (line_words (line_of w)) in
    let rest = held (room - size) ws in
    cond (ltb room size) [] (w ∷ rest)

-- whether all of them find room
unfoldable pub is_held : ℕ → List Words → Bool
is_held room ws = leb (length (entries_of ws)) room
