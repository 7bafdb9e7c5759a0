-- Document 01, "Good order", in numbers, with "the seat to act owes" read as: if any seat owes, the seat to act does. So read it stays after the last action too.
-- The bet, and what a seat has and has put in, are within all chips. Assumes nothing.
use Prim.Native.Nat.{ℕ, ◌+◌, ◌≤◌, ◌<◌}
use native.Mathlib.Omega.{arith}
use mathlib.Core.Path.{◌≡◌}
use mathlib.Core.Bool.{true}
use Rattle.commons.specs.Folds.{sum_to}
use Rattle.chips.specs.Whole.{most}
use Rattle.commons.proofs.Folds.{sum-part}
use Rattle.order.proofs.Sets.{Within}
use Rattle.order.proofs.View.{View}

pub record Good (n total : ℕ) (v : View) : Type 0 where
  pub chips : sum_to n v.stack + v.pot ≡ total
  pub few : total ≤ most
  pub books : v.pot ≡ sum_to n v.hand
  pub under : (i : ℕ) → i < n → v.round i ≤ v.hand i
  -- the bet is the largest round bet
  pub high : (i : ℕ) → i < n → v.round i ≤ v.bet
  pub met : (j : ℕ) × (j < n) × (v.round j ≡ v.bet)
  pub small : 0 < v.least
  pub large : v.least ≤ most
  pub held : (i : ℕ) → i < n → v.active i ≡ true → 0 < v.stack i
  pub owed : Within n v.owes v.active
  pub seated : v.seat < n
  pub turn : (j : ℕ) → j < n → v.owes j ≡ true → v.owes v.seat ≡ true

module _ {n total : ℕ} {v : View} (g : Good n total v) where
  pub hand_in : (i : ℕ) → i < n → v.hand i ≤ v.pot
  hand_in i l = omega (arith, g.books, sum-part n v.hand i l)

  pub room : (i : ℕ) → i < n → v.round i + v.stack i ≤ total
  room i l = omega (arith, g.chips, g.under i l, hand_in i l, sum-part n v.stack i l)

  pub bet_in : v.bet ≤ total
  bet_in = let j = g.met in omega (arith, j.2, room j.0 j.1)
