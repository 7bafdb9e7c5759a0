-- A count of seats and a seat fit a word. Assumes nothing.
use Rattle.std.specs.Prelude.{Option, Some, None}
use Prim.Native.Nat.{ℕ, zero, suc, ◌≤◌}
use native.Mathlib.Omega.{arith}
use mathlib.Core.Path.{◌≡◌, refl, sym, ap, ◌∙◌}
use mathlib.Core.Bool.{Bool, true, false, cond}
use lib.Dec.{ltb}
use borrow.Author.Tests.{ltb-true}
use Rattle.commons.proofs.Bools.{chosen-le}
use Rattle.seats.specs.declared.PlayerBitSet.{PlayerBitSet}
use Rattle.seats.specs.Bits.{has, count_to, next_from}
use Rattle.seats.specs.Set.{ones_of, seat_of}
use Rattle.layout.specs.Words.{word_of}

-- at most one for each seat
count_most : (k s : ℕ) → count_to k s ≤ k
unfolding count_to
count_most zero s = omega arith
count_most (suc k) s = omega (arith, count_most k s, chosen-le (has s k) 1)

pub count_word : (s : ℕ) → word_of (count_to 16 s) ≡ count_to 16 s
count_word s = omega (arith, count_most 16 s)

module _ (s : PlayerBitSet) (i : ℕ) where
  seat-low : (k : ℕ) (t : Bool) → ltb k 16 ≡ t → word_of (seat_of (cond t (Some k) None)) ≡ seat_of (cond t (Some k) None)
  seat-low k true e = omega (arith, ltb-true k 16 e)
  seat-low k false e = refl

  pub next-seat : (k r : ℕ) (a : (Option ℕ)) → a ≡ ones_of s i → a ≡ Some k → r ≡ word_of k → r ≡ seat_of (ones_of s i)
  unfolding ones_of
  next-seat k r a e f g = g ∙ ap (λ (b : (Option ℕ)). word_of (seat_of b)) (sym f ∙ e) ∙ seat-low (next_from s.set i) (ltb (next_from s.set i) 16) refl

  pub no-seat : (a : (Option ℕ)) → a ≡ ones_of s i → a ≡ None → 16 ≡ seat_of (ones_of s i)
  no-seat a e f = ap seat_of (sym f ∙ e)
