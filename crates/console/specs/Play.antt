-- R12.1, R12.8, R12.9: a line played, and all that a script prints. Definitions only.
use Rattle.std.specs.Prelude.{ℕ, ◌+◌, ◌-◌, ◌^◌, cond, List, [], ◌∷◌, ◌++◌, length, nat_le, nat_lt, None}
use Rattle.refusals.specs.declared.AddedError.TheVariants.{ScriptTooLong}
use Rattle.refusals.specs.Number.{added_number}
use Rattle.keys.specs.Keys.{no_key}
use Rattle.script.specs.declared.line.Words.{Words}
use Rattle.script.specs.Split.{lines}
use Rattle.script.specs.Words.{words_of}
use Rattle.script.specs.Print.{line_text}
use Rattle.script.specs.Text.{text_of}
use Rattle.console.specs.declared.act.Act.{Act}
use Rattle.console.specs.declared.play.Console.{Console}
use Rattle.console.specs.declared.play.Turn.{Turn}
use Rattle.console.specs.Act.{act_number, act_of}
use Rattle.console.specs.Shown.{view_of}

-- R12.1: line 1, no table, no key
unfoldable pub at_start : Console
at_start = record { line_no = 1; state = record { table = None; key = no_key } }

-- R12.9: lines are counted as far as the number goes
abbrev pub count_up : ℕ → ℕ
count_up n = cond (nat_lt n (2 ^ 64 - 1)) (n + 1) n

abbrev pub act_on : Console → Words → Act
act_on c w = act_of w c.state

-- R12.9: what is printed for a line: its number, 0 or the refusal, and what stands after it
unfoldable pub said : Console → Words → List ℕ
said c w = line_text c.line_no (act_number (act_on c w)) (view_of (act_on c w).state)

unfoldable pub after : Console → Words → Console
after c w = record { line_no = count_up c.line_no; state = (act_on c w).state }

abbrev pub turn_of : Console → Words → Turn
turn_of c w = record { text = text_of (said c w); console = after c w }

-- R12.1: what is printed for some lines
unfoldable pub play_lines : Console → List (List ℕ) → List ℕ
play_lines c [] = []
play_lines c (l ∷ ls) = said c (words_of l) ++ play_lines (after c (words_of l)) ls

abbrev pub too_long_line : List ℕ
too_long_line = line_text 0 (added_number ScriptTooLong) None

-- R12.1: a script of more than 65,536 bytes prints the one line, and is not played
unfoldable pub play_script : List ℕ → List ℕ
play_script s = cond (nat_le (length s) 65536) (play_lines at_start (lines s)) too_long_line
