-- R15.4, R15.5: what each call on the table in a host's lists, fs and ns, comes to. Definitions only.
use Rattle.refusals.specs.Rows.{Verdict}
use Rattle.std.specs.Prelude.{ℕ, ◌≡◌, Bool, cond, List, [], ◌∷◌, leb, length, Float}
use Rattle.commons.specs.Filled.{copied}
use Rattle.floats.specs.Helpers.{zerof}
use Rattle.refusals.specs.declared.AddedError.TheVariants.{BadRecord}
use Rattle.refusals.specs.Number.{added_number}
use Rattle.refusals.specs.Rows.{verdict_number}
use Rattle.rounds.specs.Steps.{passed_of}
use Rattle.table.specs.declared.GameState.{GameState}
use Rattle.table.specs.declared.BetStep.{BetStep}
use Rattle.table.specs.declared.TableStep.{TableStep}
use Rattle.table.specs.Answers.{bet_paid, bet_passed}
use Rattle.table.specs.Pay.{bet_of, fold_of, award_of}
use Rattle.table.specs.Rounds.{advance_of, complete_of}
use Rattle.layout.specs.Outcome.{Outcome, outcome}
use Rattle.layout.specs.Places.{VERSION, LAYOUT, FLOATS, NUMBERS}
use Rattle.layout.specs.Standing.{table_at, stands_in}

-- ---- a step, a bet, and a verdict on a build or a settlement, as an outcome
abbrev pub stepped : TableStep → Outcome
stepped s = outcome (verdict_number s.answer) s.table zerof (passed_of s.answer)

abbrev pub wagered : BetStep → Outcome
wagered s = outcome (verdict_number s.answer) s.table (bet_paid s.answer) (bet_passed s.answer)

abbrev pub judged : Verdict → GameState → Outcome
judged v t = outcome (verdict_number v) t zerof 0

-- ---- R15.4: where no table stands in the lists, 19
abbrev pub nothing_there : List Float → List ℕ → Outcome
nothing_there fs ns = outcome (added_number BadRecord) (table_at fs ns) zerof 0

abbrev pub on : List Float → List ℕ → Outcome → Outcome
on fs ns o = cond (stands_in fs ns) o (nothing_there fs ns)

-- ---- R15.5: else what the step gives of the table that does
abbrev pub fold_on : List Float → List ℕ → Outcome
fold_on fs ns = on fs ns (stepped (fold_of (table_at fs ns)))

abbrev pub advance_on : List Float → List ℕ → Outcome
advance_on fs ns = on fs ns (stepped (advance_of (table_at fs ns)))

abbrev pub complete_on : List Float → List ℕ → Outcome
complete_on fs ns = on fs ns (stepped (complete_of (table_at fs ns)))

abbrev pub award_on : List Float → List ℕ → ℕ → Float → Outcome
award_on fs ns i x = on fs ns (stepped (award_of (table_at fs ns) i x))

abbrev pub bet_on : List Float → List ℕ → Float → Bool → Outcome
bet_on fs ns a forced = on fs ns (wagered (bet_of (table_at fs ns) a forced))

-- ---- R15.7: where a call answers 0, the outcome's table stands in the lists
abbrev pub Stands : ℕ → List Float → List ℕ → Outcome → Type 0
Stands r fs' ns' o = r ≡ 0 → table_at fs' ns' ≡ o.table

-- ---- R15.13: the versions and the two sizes, told in a list of four
abbrev pub version_number : ℕ → ℕ
version_number room = cond (leb 4 room) 0 19

abbrev pub version_told : List ℕ → List ℕ
version_told out = cond (leb 4 (length out)) (copied 0 0 out 0 (VERSION ∷ LAYOUT ∷ FLOATS ∷ NUMBERS ∷ []) 4) out
