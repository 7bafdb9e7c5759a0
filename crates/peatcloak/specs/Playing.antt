-- R15.22: what a script that is played into a host's lists, fs and ns, comes to: the table at its end. Definitions only.
use Rattle.std.specs.Prelude.{ℕ, unwrap_or, Bool, not, List, [], ◌∷◌, leb, length, Float}
use Rattle.std.specs.Option.{is_some}
use Rattle.refusals.specs.declared.Refusal.TheVariants.{Added}
use Rattle.refusals.specs.declared.AddedError.TheVariants.{BadRecord, BadLine, ScriptTooLong}
use Rattle.refusals.specs.Rows.{Row, row, judge}
use Rattle.console.specs.Ending.{end_of}
use Rattle.table.specs.With.{no_table}
use Rattle.layout.specs.Outcome.{Outcome}
use Rattle.layout.specs.Standing.{room_for}
use Rattle.peatcloak.specs.Calls.{judged}

-- 19 without room, 26, and 25 where no table stands at its end
abbrev pub play_rows : ℕ → ℕ → ℕ → Bool → List Row
play_rows floats numbers script stands =
    row (not (room_for floats numbers)) (Added BadRecord) ∷ row (not (leb script 65536)) (Added ScriptTooLong) ∷ row (not stands) (Added BadLine) ∷ []

abbrev pub play_table_rows : List Float → List ℕ → List ℕ → List Row
play_table_rows fs ns script = play_rows (length fs) (length ns) (length script) (is_some (end_of script).table)

abbrev pub play_table_on : List Float → List ℕ → List ℕ → Outcome
play_table_on fs ns script = judged (judge (play_table_rows fs ns script)) (unwrap_or (end_of script).table no_table)
