-- The raise rule as a parameter: which rise is allowed at a smallest raise, and what that becomes. Assumes nothing.
use Prim.Native.Nat.{ℕ, ◌≤◌, max}
use native.Mathlib.Omega.{arith}

pub record Rule : Type 1 where
  pub Lift : ℕ → ℕ → Type 0
  pub grow : ℕ → ℕ → ℕ
  pub lift_least : (m r : ℕ) → Lift m r → m ≤ r
  pub grow-least : (m r : ℕ) → m ≤ grow m r
  pub grow-most : (m r : ℕ) → grow m r ≤ max m r

-- document 01's: a rise of m at least, and m becomes the larger
abbrev pub base : Rule
base = record { Lift = λ m r. m ≤ r; grow = λ m r. max m r; lift_least = λ m r h. h; grow-least = λ m r. omega arith; grow-most = λ m r. omega arith }
