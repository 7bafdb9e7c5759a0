-- R12.5, R12.6, R12.8, R12.14: what each line does to what stands. Definitions only.
use Rattle.std.specs.Prelude.{ℕ, true, false, cond, List, take, ◌==◌, slice_index, Option, Some, None, Result, Ok, Err}
use Rattle.refusals.specs.declared.AddedError.{AddedError}
use Rattle.refusals.specs.declared.AddedError.TheVariants.{BadLine}
use Rattle.refusals.specs.declared.Refusal.{Refusal}
use Rattle.refusals.specs.declared.Refusal.TheVariants.{Added}
use Rattle.refusals.specs.Rows.{Verdict, answer, verdict_number}
use Rattle.keys.specs.declared.HandKey.{HandKey}
use Rattle.keys.specs.Keys.{key_of, no_key}
use Rattle.table.specs.declared.GameState.{GameState}
use Rattle.table.specs.declared.TableStep.{TableStep}
use Rattle.table.specs.declared.BetStep.{BetStep}
use Rattle.table.specs.Pay.{bet_of, fold_of}
use Rattle.table.specs.Rounds.{advance_of, complete_of}
use Rattle.builder.specs.declared.BuildStep.{BuildStep}
use Rattle.settlement.specs.declared.Settled.{Settled}
use Rattle.settlement.specs.Settlement.{settled_of}
use Rattle.script.specs.declared.line.Words.{Words}
use Rattle.script.specs.declared.line.Line.{Line}
use Rattle.script.specs.declared.line.Line.TheVariants.{Table, Advance, Fold, Bet, Forced, Complete, Settle, Key}
use Rattle.script.specs.Line.{meaning_of}
use Rattle.console.specs.declared.act.State.{State}
use Rattle.console.specs.declared.act.Act.{Act}
use Rattle.console.specs.Opening.{chips_of, opening_of}

-- R12.8: 0, or the number of the refusal
abbrev pub act_number : Act → ℕ
act_number a = verdict_number a.answer

-- of what a step answers, whether it is accepted
abbrev pub verdict_of : {A : Type 0} → Result A Refusal → Verdict
verdict_of (Ok k) = Ok tt
verdict_of (Err r) = Err r

-- a table that stands, and the key for the next one
abbrev pub on_table : GameState → HandKey → State
on_table t k = record { table = Some t; key = k }

-- R12.8: an answer beside what stands after the line
abbrev pub acted : Verdict → State → Act
acted a s = record { answer = a; state = s }

abbrev pub bad_line : State → Act
bad_line s = acted (Err (Added BadLine)) s

-- what is done with a table that stands, or where none does
abbrev pub where_stands : Act → (GameState → Act) → Option GameState → Act
where_stands a f None = a
where_stands a f (Some t) = f t

-- R12.6: a line that needs a table: what its step gives of the one that stands; 25 where none does
unfoldable pub needing : State → (GameState → Act) → Act
needing s f = where_stands (bad_line s) f s.table

-- the answer and the table that a step gives, beside the key that stood
abbrev pub stepped : HandKey → TableStep → Act
stepped k r = acted (verdict_of r.answer) (on_table r.table k)

abbrev pub wagered : HandKey → BetStep → Act
wagered k r = acted (verdict_of r.answer) (on_table r.table k)

abbrev pub settled : HandKey → Settled → Act
settled k r = acted r.answer (on_table r.table k)

-- R12.5, R12.6: `w` has a rank for each seat of the table, or is 25
abbrev pub ranked_at : State → ℕ → List ℕ → GameState → Act
ranked_at s count ns t = cond (count == t.num_players) (settled s.key (settled_of t (take 16 ns))) (bad_line s)

unfoldable pub ranked : State → ℕ → List ℕ → Act
ranked s count ns = needing s (ranked_at s count ns)

-- R12.8, R12.14: a new table where the build stands, and the key is used up; else what stood
abbrev pub opened : State → BuildStep → Act
opened s r = record { answer = r.answer; state = answer (on_table r.table no_key) (λ q. s) r.answer }

-- R12.14: `k` puts its key in the place of the one that stood
abbrev pub keyed : State → List ℕ → Act
keyed s ns = acted (Ok tt) (record { table = s.table; key = key_of (slice_index ns 0) (slice_index ns 1) (slice_index ns 2) })

-- R12.5: what a line asks, done; 25 for a bad one
abbrev pub done : State → Words → Result Line AddedError → Act
done s w (Ok Table) = opened s (opening_of s.key w.count w.numbers)
done s w (Ok Advance) = needing s (λ t. stepped s.key (advance_of t))
done s w (Ok Fold) = needing s (λ t. stepped s.key (fold_of t))
done s w (Ok (Bet x)) = needing s (λ t. wagered s.key (bet_of t (chips_of x) false))
done s w (Ok (Forced x)) = needing s (λ t. wagered s.key (bet_of t (chips_of x) true))
done s w (Ok Complete) = needing s (λ t. stepped s.key (complete_of t))
done s w (Ok Settle) = ranked s w.count w.numbers
done s w (Ok Key) = keyed s w.numbers
done s w (Err e) = acted (Err (Added e)) s

unfoldable pub act_of : Words → State → Act
act_of w s = done s w (meaning_of w)
