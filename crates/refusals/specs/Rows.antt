-- R13.2: an order of refusals is rows of a test and the refusal that it gives, of which the first that holds answers. Definitions only.
use Rattle.std.specs.Prelude.{ℕ, Bool, cond, List, [], ◌∷◌, Result, Ok, Err, ⊤}
use Rattle.refusals.specs.declared.Refusal.{Refusal}
use Rattle.refusals.specs.Number.{number_of}

pub record Row : Type 0 where
  pub holds : Bool
  pub refusal : Refusal

abbrev pub row : Bool → Refusal → Row
row t r = record { holds = t; refusal = r }

-- what an order of refusals comes to: the call stands, or the first test that held refuses it
abbrev pub Verdict : Type 0
Verdict = Result ⊤ Refusal

-- the refusal if the test holds, else what follows
abbrev pub give_if : Bool → Refusal → Verdict → Verdict
give_if t r rest = cond t (Err r) rest

-- the first row that holds, else a verdict that follows
abbrev pub judge_then : List Row → Verdict → Verdict
judge_then [] v = v
judge_then (r ∷ rs) v = give_if r.holds r.refusal (judge_then rs v)

-- nothing is refused where none holds
abbrev pub judge : List Row → Verdict
judge rs = judge_then rs (Ok tt)

-- what a verdict comes to: what was asked where it stands, else what the refusal gives
abbrev pub answer : {A : Type 0} → A → (Refusal → A) → Verdict → A
answer a f (Ok _) = a
answer a f (Err r) = f r

-- 0, or the number of the refusal
abbrev pub verdict_number : {A : Type 0} → Result A Refusal → ℕ
verdict_number (Ok _) = 0
verdict_number (Err r) = number_of r
