-- R18.15: a line laid on the tape behind the entries of its hand, as the code goes. Definitions only.
use Rattle.std.specs.Prelude.{ℕ, Bool, true, false, cond, ◌&&◌, List, [], ◌∷◌, Result, Ok, Err, length, take}
use Rattle.script.specs.declared.line.Words.{Words}
use Rattle.journal.specs.declared.laying.NotLaid.{NotLaid}
use Rattle.journal.specs.Tape.{put_line, tape_after}
use Rattle.recorder.specs.declared.recording.Filled.{Filled}

abbrev pub filled : ℕ → Bool → Filled
filled entries whole = record { entries = entries; is_whole = whole }

-- what is filled once a line was put
unfoldable pub after_put : Filled → Result ℕ NotLaid → Filled
after_put f (Ok n) = filled n true
after_put f (Err e) = filled f.entries false

-- a tape, and how far it is filled
pub record Taped : Type 0 where
  pub filled : Filled
  pub tape : List ℕ

abbrev pub taped : Filled → List ℕ → Taped
taped f tape = record { filled = f; tape = tape }

-- a line is put where it goes in and all lines before it found room
abbrev pub put_on : Words → Taped → Taped
put_on w x =
    let ns = take w.count w.numbers in
    taped (after_put x.filled (put_line (length x.tape) x.filled.entries w.letter ns)) (tape_after x.filled.entries w.letter ns x.tape)

unfoldable pub laid_line : Bool → Words → Taped → Taped
laid_line goes w x = cond (goes && x.filled.is_whole) (put_on w x) x

unfoldable pub laid_all : Taped → List Words → Taped
laid_all x [] = x
laid_all x (w ∷ ws) = laid_all (laid_line true w x) ws
