-- R15.20: what a run of voluntary bets on the table in a host's lists, fs and ns, comes to. Definitions only.
use Rattle.std.specs.Prelude.{ℕ, zero, suc, ◌+◌, ◌≡◌, Bool, false, cond, ◌&&◌, List, get_or, length, Float, Result, Ok, Err}
use Rattle.std.specs.Float.{nan, binary32}
use Rattle.std.specs.Float.Ieee.{add}
use Rattle.floats.specs.Helpers.{zerof}
use Rattle.refusals.specs.declared.Refusal.{Refusal}
use Rattle.refusals.specs.declared.AddedError.TheVariants.{BadRecord}
use Rattle.refusals.specs.Number.{added_number}
use Rattle.table.specs.declared.GameState.{GameState}
use Rattle.table.specs.declared.Paid.{Paid}
use Rattle.table.specs.Pay.{bet_of}
use Rattle.table.specs.Sound.{sound_of}
use Rattle.table.specs.With.{no_table}
use Rattle.layout.specs.Outcome.{Outcome, outcome}
use Rattle.layout.specs.Standing.{table_at, stands_in}

-- ---- what was paid before a bet, and after it; and whether it counts
abbrev pub paid_after : Float → Result Paid Refusal → Float
paid_after x (Ok p) = add binary32 x p.amount
paid_after x (Err r) = x

abbrev pub one_if_taken : Result Paid Refusal → ℕ
one_if_taken (Ok p) = 1
one_if_taken (Err r) = 0

-- ---- one bet more: the table that it leaves, what was paid, and how many bets were taken
abbrev pub with_bet : Outcome → Float → Outcome
with_bet o a =
    let s = bet_of o.table a false in
    outcome 0 s.table (paid_after o.paid s.answer) (o.passed + one_if_taken s.answer)

-- the first k amounts, from 0.0 paid on
unfoldable pub ran_to : ℕ → List Float → GameState → Outcome
ran_to zero l t = outcome 0 t zerof 0
ran_to (suc k) l t = with_bet (ran_to k l t) (get_or l k nan)

-- ---- the whole run, on a sound table; else 19
abbrev pub can_run : List Float → List ℕ → Bool
can_run fs ns = stands_in fs ns && sound_of (table_at fs ns)

abbrev pub nothing_run : Outcome
nothing_run = outcome (added_number BadRecord) no_table zerof 0

abbrev pub run_on : List Float → List ℕ → List Float → Outcome
run_on fs ns l = cond (can_run fs ns) (ran_to (length l) l (table_at fs ns)) nothing_run

-- where a run answers 0, its table stands in the lists
abbrev pub Stands : ℕ → List Float → List ℕ → Outcome → Type 0
Stands r fs' ns' o = r ≡ 0 → table_at fs' ns' ≡ o.table
