-- What a reading of the lists tells. Assumes nothing.
use Prim.Native.Nat.{ℕ, ◌≤◌}
use mathlib.Core.Path.{◌≡◌}
use mathlib.Core.Bool.{true, cond}
use mathlib.Core.List.{List}
use lib.Dec.{leb}
use lib.ListN.{length}
use lib.Ieee.{Float}
use borrow.Author.Tests.{leb-true}
use Rattle.commons.proofs.Bools.{and_both}
use Rattle.table.specs.With.{no_table}
use Rattle.layout.specs.Places.{FLOATS, NUMBERS}
use Rattle.layout.specs.Standing.{room_for, words_fit, stands_in, table_at, table_in}

module _ (fs : List Float) (ns : List ℕ) where
  -- where one stands there is room
  pub stands-room : stands_in fs ns ≡ true → room_for (length fs) (length ns) ≡ true
  stands-room h = (and_both (room_for (length fs) (length ns)) (words_fit ns) h).0

  -- and each word is in its range
  pub stands-fit : stands_in fs ns ≡ true → words_fit ns ≡ true
  stands-fit h = (and_both (room_for (length fs) (length ns)) (words_fit ns) h).1

  pub table-there : stands_in fs ns ≡ true → table_in fs ns ≡ table_at fs ns
  unfolding table_in
  table-there h = λ i. cond (stands-room h i) (table_at fs ns) no_table

pub room_of : (floats numbers : ℕ) → room_for floats numbers ≡ true → (FLOATS ≤ floats) × (NUMBERS ≤ numbers)
room_of floats numbers h = let r = and_both (leb FLOATS floats) (leb NUMBERS numbers) h in (leb-true _ _ r.0, leb-true _ _ r.1)
