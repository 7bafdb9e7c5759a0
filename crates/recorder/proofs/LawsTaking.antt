-- Laws of the place of the next accepted `t`: a line more is read and played, until it is the line that opens a hand, or the script ends. Assumes nothing.
use Prim.Native.Nat.{ℕ, ◌≤◌, ◌<◌}
use native.Mathlib.Omega.{arith}
use mathlib.Core.Path.{◌≡◌, ◌∙◌}
use mathlib.Core.Bool.{Bool, true, false, cond, ◌&&◌}
use mathlib.Core.List.{List, []}
use lib.Dec.{eqb}
use lib.ListN.{length, drop, drop_of_length-le}
use Rattle.script.specs.declared.line.Words.{Words}
use Rattle.script.specs.declared.reader.Read.{Read}
use Rattle.script.specs.Ascii.{is}
use Rattle.script.specs.Split.{lines}
use Rattle.script.specs.Words.{words_of}
use Rattle.script.specs.Read.{line_from, read_at}
use Rattle.script.proofs.LawsRead.{lines_from, next_place}
use Rattle.console.specs.declared.act.State.{State}
use Rattle.console.specs.declared.act.Act.{Act}
use Rattle.console.specs.Act.{act_number, act_of}
use Rattle.recorder.specs.Hands.{after, opens}
use Rattle.recorder.specs.Taking.{place, opens_at, next_table}

pub no_more : (script : List ℕ) (at : ℕ) → length script ≤ at → lines (drop at script) ≡ []
unfolding lines
no_more script at h = rw (drop_of_length-le script h)

pub at-end : (script : List ℕ) (at : ℕ) (s : State) → length script ≤ at → next_table script at s ≡ place at s
unfolding opens_at
at-end script at s h = rw (no_more script at h)

-- the line at a place was read, and played on what stood
pub record Line (script : List ℕ) (at : ℕ) (s : State) (read : Read) (act : Act) : Type 0 where
  pub here : at < length script
  pub was_read : read ≡ read_at script at
  pub played : act ≡ act_of read.words s

pub line : {script : List ℕ} {at : ℕ} {s : State} {read : Read} {act : Act} → at < length script → read ≡ read_at script at → act ≡ act_of read.words s → Line script at s read act
line h r a = record { here = h; was_read = r; played = a }

-- whether it opens a hand, by its letter and its answer
abbrev pub opening : Read → Act → Bool
opening read act = is read.words.letter "t" && eqb (act_number act) 0

module _ {script : List ℕ} {at : ℕ} {s : State} {read : Read} {act : Act} (x : Line script at s read act) where
  abbrev w : Words
  w = words_of (line_from script at)

  pub words_are : read.words ≡ w
  unfolding read_at
  words_are = rw x.was_read

  pub state-is : act.state ≡ after w s
  state-is = rw (x.played, words_are)

  pub opening-is : opening read act ≡ opens w s
  unfolding opens
  opening-is = rw (x.played, words_are)

  pub goes-up : at < read.next
  goes-up = rw x.was_read (omega (arith, next_place script at x.here))

  one_line : next_table script at s ≡ cond (opens w s) (place at s) (next_table script (read_at script at).next (after w s))
  unfolding opens_at
  one_line = rw (lines_from script at x.here, next_place script at x.here)

  pub stops-here : opening read act ≡ true → next_table script at s ≡ place at s
  stops-here e = one_line ∙ rw (← opening-is, e)

  pub goes_on : opening read act ≡ false → next_table script at s ≡ next_table script read.next act.state
  goes_on e = one_line ∙ rw (← opening-is, e, state-is, x.was_read)
