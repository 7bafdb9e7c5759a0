-- R15.5: what a call on a table comes to, and what then stands in a host's two lists: on a refusal, what stood there. Definitions only.
use Rattle.std.specs.Prelude.{ℕ, ◌≡◌, true, cond, List, eqb, Float}
use Rattle.table.specs.declared.GameState.{GameState}
use Rattle.table.specs.Sound.{sound_of}
use Rattle.layout.specs.Standing.{room_for, table_at}
use Rattle.layout.specs.Laid.{floats_laid, numbers_laid}

-- 0 or document 01's number, the table, what was paid, and how many seats the walk passed to
pub record Outcome : Type 0 where
  pub number : ℕ
  pub table : GameState
  pub paid : Float
  pub passed : ℕ

abbrev pub outcome : ℕ → GameState → Float → ℕ → Outcome
outcome number t paid passed = record { number = number; table = t; paid = paid; passed = passed }

abbrev pub floats_after : ℕ → Outcome → List Float → List Float
floats_after numbers o fs = cond (eqb o.number 0) (floats_laid numbers o.table o.paid fs) fs

abbrev pub numbers_after : ℕ → Outcome → List ℕ → List ℕ
numbers_after floats o ns = cond (eqb o.number 0) (numbers_laid floats o.table o.passed ns) ns

-- R15.7: where it is accepted, there is room and its table is sound, that one stands there
abbrev pub StandsAfter : ℕ → ℕ → Outcome → List Float → List ℕ → Type 0
StandsAfter floats numbers o fs' ns' = o.number ≡ 0 → room_for floats numbers ≡ true → sound_of o.table ≡ true → table_at fs' ns' ≡ o.table
