-- The largest of whole amounts: the float that `largest_of` folds is the largest number of chips, which is among them and has none above it. Assumes nothing.
use Prim.Native.Nat.{ℕ, zero, suc, ◌≤◌, ◌<◌, max}
use native.Mathlib.Omega.{arith}
use mathlib.Core.Path.{◌≡◌}
use mathlib.Core.Logic.{⊎_elim}
use mathlib.Core.Bool.{true}
use mathlib.Core.List.{List}
use lib.ListN.{get_or}
use lib.Ieee.{Float, nan}
use Rattle.amounts.specs.Amounts.{largest_of}
use Rattle.commons.proofs.Order.{lt_or_le, last_or}
use Rattle.chips.specs.Whole.{chips_in, all_whole}
use Rattle.chips.proofs.Value.{Is}
use Rattle.chips.proofs.Helpers.{zero_is, max-whole}
use Rattle.chips.proofs.Whole.{chips-le, chips_are}
use Rattle.chips.proofs.Lists.{amount-at}
use Rattle.order.specs.GoodOrder.{chips_at}

top : ℕ → (ℕ → ℕ) → ℕ
top zero f = 0
top (suc n) f = max (top n f) (f n)

top-high : (n : ℕ) (f : ℕ → ℕ) (i : ℕ) → i < n → f i ≤ top n f
unfolding top
top-high zero f i h = absurd (omega arith)
top-high (suc n) f i h = ⊎_elim (λ e. rw e (omega arith)) (λ l. omega (arith, top-high n f i l)) (last_or h)

top-met : (n : ℕ) (f : ℕ → ℕ) → 0 < n → (j : ℕ) × (j < n) × (f j ≡ top n f)
unfolding top
top-met zero f h = absurd (omega arith)
top-met (suc zero) f h = (0, omega arith, omega arith)
top-met (suc (suc n)) f h =
    let j = top-met (suc n) f (omega arith) in
    ⊎_elim (λ l. (suc n, omega arith, omega arith)) (λ g. (j.0, omega (arith, j.1), omega (arith, j.2))) (lt_or_le (top (suc n) f) (f (suc n)))

top_float : (l : List Float) (n : ℕ) → ((i : ℕ) → i < n → Is (get_or l i nan) (chips_at l i)) → Is (largest_of n l) (top n (chips_at l))
unfolding top largest_of
top_float l zero h = zero_is
top_float l (suc n) h = max-whole (top_float l n (λ i k. h i (omega arith))) (h n (omega arith))

module _ (l : List Float) (n : ℕ) (w : all_whole l n ≡ true) (some : 0 < n) where
  largest-top : chips_in (largest_of n l) ≡ top n (chips_at l)
  largest-top =
      let j = top-met n (chips_at l) some in
      chips_are (largest_of n l) (top n (chips_at l)) (top_float l n (λ i h. amount-at l n w i h)) (omega (arith, j.2, chips-le (get_or l j.0 nan)))

  pub largest-high : (i : ℕ) → i < n → chips_at l i ≤ chips_in (largest_of n l)
  largest-high i h = rw largest-top (top-high n (chips_at l) i h)

  pub largest-met : (j : ℕ) × (j < n) × (chips_at l j ≡ chips_in (largest_of n l))
  largest-met = rw largest-top (top-met n (chips_at l) some)

  -- what is so is it
  pub largest-is : (b : ℕ) → ((i : ℕ) → i < n → chips_at l i ≤ b) → (j : ℕ) → j < n → chips_at l j ≡ b → b ≡ chips_in (largest_of n l)
  largest-is b high j h e = let m = largest-met in omega (arith, m.2, high m.0 m.1, largest-high j h)
