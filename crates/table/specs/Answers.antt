-- R13.3, R13.4: what the steps answer, with the number of each answer and its values: zeros where refused. Definitions only.
use Rattle.std.specs.Prelude.{Result, Ok, Err}
use Rattle.table.specs.declared.Paid.{Paid}
use Rattle.std.specs.Prelude.{ℕ, not, List, [], ◌∷◌, Float}
use Rattle.floats.specs.Helpers.{zerof}
use Rattle.refusals.specs.declared.Refusal.{Refusal}
use Rattle.refusals.specs.declared.Refusal.TheVariants.{Added}
use Rattle.refusals.specs.declared.AddedError.TheVariants.{BadRecord}
use Rattle.refusals.specs.Rows.{Row, row, judge, answer}
use Rattle.table.specs.declared.GameState.{GameState}
use Rattle.table.specs.declared.BetStep.{BetStep}
use Rattle.table.specs.declared.TableStep.{TableStep}
use Rattle.table.specs.Sound.{sound_of}

abbrev pub done : ℕ → GameState → TableStep
done k t = record { answer = Ok k; table = t }

abbrev pub refused : Refusal → GameState → TableStep
refused r t = record { answer = Err r; table = t }

abbrev pub paid : Float → ℕ → GameState → BetStep
paid x k t = record { answer = Ok (record { amount = x; passed = k }); table = t }

abbrev pub not_paid : Refusal → GameState → BetStep
not_paid r t = record { answer = Err r; table = t }

-- ---- R13.3: a step by its rows: what it gives where none holds, else the refusal and the record as it was
abbrev pub step_by : List Row → GameState → TableStep → TableStep
step_by rows t s = answer s (λ r. refused r t) (judge rows)

-- 19 comes first in every step, and for some alone
abbrev pub bad_record : GameState → Row
bad_record t = row (not (sound_of t)) (Added BadRecord)

abbrev pub sound_rows : GameState → List Row
sound_rows t = bad_record t ∷ []

-- ---- R6.12: a bet's payment, and how many seats the walk passed to: 0 where it is refused
abbrev pub bet_paid : Result Paid Refusal → Float
bet_paid (Ok p) = p.amount
bet_paid (Err r) = zerof

abbrev pub bet_passed : Result Paid Refusal → ℕ
bet_passed (Ok p) = p.passed
bet_passed (Err r) = 0
