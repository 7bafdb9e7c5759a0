-- What is seen of a table in whole chips: what demand 3 looks at. Definitions only.
use Prim.Native.Nat.{ℕ}
use mathlib.Core.Bool.{Bool}

pub record View : Type 0 where
  pub stack : ℕ → ℕ
  pub round : ℕ → ℕ
  pub hand : ℕ → ℕ
  pub pot : ℕ
  pub bet : ℕ
  pub least : ℕ
  pub seat : ℕ
  pub owes : ℕ → Bool
  pub active : ℕ → Bool
