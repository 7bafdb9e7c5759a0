-- R18.15: the next hand of a script from a place on. Definitions only.
use Rattle.std.specs.Prelude.{ℕ, ◌+◌, cond, List, [], ◌∷◌, map, ltb, length, drop, Some, None}
use Rattle.keys.specs.declared.HandKey.{HandKey}
use Rattle.script.specs.declared.line.Words.{Words}
use Rattle.script.specs.Split.{lines}
use Rattle.script.specs.Words.{words_of}
use Rattle.script.specs.Read.{read_at}
use Rattle.console.specs.declared.act.State.{State}
use Rattle.console.specs.Parts.{over}
use Rattle.recorder.specs.declared.recording.Place.{Place}
use Rattle.recorder.specs.declared.recording.Filled.{Filled}
use Rattle.recorder.specs.declared.recording.Taken.{Taken}
use Rattle.recorder.specs.Entries.{entries_of, held, is_held}
use Rattle.recorder.specs.Laying.{filled}
use Rattle.recorder.specs.Hands.{after, opens, lines_until, Recorded}

abbrev pub place : ℕ → State → Place
place at s = record { at = at; state = s }

-- the place of the next accepted `t`, or the end, and what stands there; the first of these lines stands at a place, and ends one byte past its own
unfoldable pub opens_at : ℕ → State → List (List ℕ) → Place
opens_at at s [] = place at s
opens_at at s (l ∷ ls) =
    let rest = opens_at (at + length l + 1) (after (words_of l) s) ls in
    cond (opens (words_of l) s) (place at s) rest

abbrev pub next_table : List ℕ → ℕ → State → Place
next_table script at s = opens_at at s (lines (drop at script))

-- the lines from a place on
abbrev pub words_from : List ℕ → ℕ → List Words
words_from script at = map words_of (lines (drop at script))

-- the hand that opens at a place: its lines, and where it is closed
abbrev pub lines_at : List ℕ → Place → List Words
lines_at script p =
    let r = read_at script p.at in
    r.words ∷ lines_until (after r.words p.state) (words_from script r.next)

abbrev pub closed_at : List ℕ → Place → Place
closed_at script p =
    let r = read_at script p.at in
    next_table script r.next (after r.words p.state)

abbrev pub hand_at : List ℕ → Place → Recorded
hand_at script p = record { key = p.state.key; lines = lines_at script p; ended = (closed_at script p).state }

-- a hand that is closed at a place, with its key and what was filled of the tape
abbrev pub closed_with : Place → HandKey → Filled → Taken
closed_with p key f = record { hand = Some (record { key = key; entries = f.entries; is_whole = f.is_whole }); at = p.at; state = p.state }

-- ---- the next hand from a place on, with so much room on the tape
abbrev pub taken_at : List ℕ → Place → ℕ → Taken
taken_at script p room = closed_with (closed_at script p) p.state.key (filled (length (entries_of (held room (lines_at script p)))) (is_held room (lines_at script p)))

-- at the script's end there is none
abbrev pub none_at : Place → Taken
none_at p = record { hand = None; at = p.at; state = p.state }

unfoldable pub taken : List ℕ → ℕ → State → ℕ → Taken
taken script at s room =
    let p = next_table script at s in
    cond (ltb p.at (length script)) (taken_at script p room) (none_at p)

-- its entries lie over the front of the tape
unfoldable pub tape_taken : List ℕ → ℕ → State → List ℕ → List ℕ
tape_taken script at s tape =
    let p = next_table script at s in
    cond (ltb p.at (length script)) (over (entries_of (held (length tape) (lines_at script p))) tape) tape
