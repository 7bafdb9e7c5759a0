-- R12.15: what stands after some lines, and at the end of a script. Definitions only.
use Rattle.std.specs.Prelude.{ℕ, cond, List, [], ◌∷◌, length, nat_le}
use Rattle.script.specs.Split.{lines}
use Rattle.script.specs.Words.{words_of}
use Rattle.console.specs.declared.act.State.{State}
use Rattle.console.specs.Act.{act_of}
use Rattle.console.specs.Play.{at_start}

unfoldable pub state_after : State → List (List ℕ) → State
state_after s [] = s
state_after s (l ∷ ls) = state_after (act_of (words_of l) s).state ls

-- a script of more than 65,536 bytes is not played
unfoldable pub end_of : List ℕ → State
end_of s = cond (nat_le (length s) 65536) (state_after at_start.state (lines s)) at_start.state
