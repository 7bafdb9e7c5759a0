-- R18.14: the hands of a script. "Only accepted lines go in; `t` stands first and nowhere else in a hand, and `k` lives in the key."
-- Definitions only.
use Rattle.std.specs.Prelude.{ℕ, Bool, cond, not, ◌&&◌, List, [], ◌∷◌, map, eqb}
use Rattle.keys.specs.declared.HandKey.{HandKey}
use Rattle.script.specs.declared.line.Words.{Words}
use Rattle.script.specs.Ascii.{is}
use Rattle.script.specs.Split.{lines}
use Rattle.script.specs.Words.{words_of}
use Rattle.console.specs.declared.act.State.{State}
use Rattle.console.specs.Act.{act_number, act_of}
use Rattle.console.specs.Play.{at_start}

-- the number that a line answers, and what stands after it
abbrev pub answered : Words → State → ℕ
answered w s = act_number (act_of w s)

abbrev pub after : Words → State → State
after w s = (act_of w s).state

-- an accepted `t` closes a hand and opens the next
unfoldable pub opens : Words → State → Bool
opens w s = is w.letter "t" && eqb (answered w s) 0

-- beside its `t` a hand has the accepted lines that are no `k`
unfoldable pub goes_in : Words → State → Bool
goes_in w s = not (is w.letter "k") && eqb (answered w s) 0

-- the lines that go in before the next hand opens, and what stands there
unfoldable pub lines_until : State → List Words → List Words
lines_until s [] = []
lines_until s (w ∷ ws) =
    let rest = lines_until (after w s) ws in
    cond (opens w s) [] (cond (goes_in w s) (w ∷ rest) rest)

unfoldable pub state_until : State → List Words → State
state_until s [] = s
state_until s (w ∷ ws) =
    let rest = state_until (after w s) ws in
    cond (opens w s) s rest

-- a hand: the key that stood when its `t` was typed, its lines, and what stands when it is closed
pub record Recorded : Type 0 where
  pub key : HandKey
  pub lines : List Words
  pub ended : State

abbrev pub opened : State → Words → List Words → Recorded
opened s w ws = record { key = s.key; lines = w ∷ lines_until (after w s) ws; ended = state_until (after w s) ws }

-- the hands of some lines, from what stands before them
unfoldable pub hands_of : State → List Words → List Recorded
hands_of s [] = []
hands_of s (w ∷ ws) =
    let rest = hands_of (after w s) ws in
    cond (opens w s) (opened s w ws ∷ rest) rest

-- the hands of a script
abbrev pub script_hands : List ℕ → List Recorded
script_hands script = hands_of at_start.state (map words_of (lines script))
