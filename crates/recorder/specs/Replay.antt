-- R18.16: a hand played again, from no table and its key. Definitions only.
use Rattle.std.specs.Prelude.{ℕ, suc, cond, List, [], ◌∷◌, map, eqb, None, Result, Ok, Err}
use Rattle.refusals.specs.declared.JournalError.{JournalError}
use Rattle.refusals.specs.declared.Refusal.TheVariants.{Journal}
use Rattle.refusals.specs.Rows.{Verdict, verdict_number}
use Rattle.keys.specs.declared.HandKey.{HandKey}
use Rattle.keys.specs.Keys.{no_key}
use Rattle.script.specs.declared.line.Words.{Words}
use Rattle.journal.specs.declared.hand.HandHead.{HandHead}
use Rattle.journal.specs.Hand.{words_of, reads}
use Rattle.journal.specs.Lines.{lines_of}
use Rattle.journal.specs.Reading.{as_played}
use Rattle.console.specs.declared.act.State.{State}
use Rattle.console.specs.Act.{act_of}
use Rattle.recorder.specs.declared.replaying.Replayed.{Replayed}
use Rattle.recorder.specs.Hands.{answered, after}

-- where a replay stops: an answer, the lines that were accepted, and what stands
abbrev pub replayed : Verdict → ℕ → State → Replayed
replayed answer count s = record { answer = answer; lines = count; state = s }

-- 0, or the number of the refusal
abbrev pub replay_number : Replayed → ℕ
replay_number p = verdict_number p.answer

-- lines one after another, until one is refused; so many were accepted before them
unfoldable pub played_on : ℕ → State → List Words → Replayed
played_on count s [] = replayed (Ok tt) count s
played_on count s (w ∷ ws) =
    let rest = played_on (suc count) (after w s) ws in
    cond (eqb (answered w s) 0) rest (replayed (act_of w s).answer count s)

-- no table, and a key for the first
abbrev pub fresh_with : HandKey → State
fresh_with k = record { table = None; key = k }

abbrev pub replay_of : HandKey → List Words → Replayed
replay_of k ws = played_on 0 (fresh_with k) ws

-- the lines that bytes hold, as they are played
abbrev pub lines_in : List ℕ → List Words
lines_in b = map as_played (lines_of (words_of b))

-- bytes that are a hand are played by its key; others are 27, and nothing is played
unfoldable pub replay_read : List ℕ → Result HandHead JournalError → Replayed
replay_read b (Err e) = replayed (Err (Journal e)) 0 (fresh_with no_key)
replay_read b (Ok h) = replay_of h.title.key (lines_in b)

unfoldable pub replay_bytes : List ℕ → Replayed
replay_bytes b = replay_read b (reads b)
