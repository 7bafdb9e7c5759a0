-- An award on top of whole chips is exact in binary32, and in a list it moves the one place; so the sum of the list grows by the awards.
-- Assumes nothing.
use Rattle.std.proofs.Common.{◌≡◌, ℕ, ◌+◌, ◌<◌, ◌≤◌, List, length, get_or, ◌∙◌, ⊎_elim, eq-zero-or-pos, arith, eq-eqb, ne_eqb}
use lib.Ieee.{Float, nan}
use Rattle.commons.proofs.Order.{lt_or_le}
use Rattle.commons.proofs.Filled.{filled_at, filled-out}
use Rattle.commons.specs.Folds.{sum_to}
use Rattle.chips.specs.Whole.{most, sum_chips}
use Rattle.chips.proofs.Add.{add-whole}
use Rattle.commons.proofs.Folds.{sum_same, sum-add}
use Rattle.chips.proofs.Value.{Is}
use Rattle.chips.proofs.Whole.{of_int_lem, chips_are}
use Rattle.settlement.specs.Hand.{chips_at}
use Rattle.settlement.specs.Settlement.{raised, raised_all}

-- ---- one amount
pub raised-none : (x : Float) (a : ℕ) → a ≡ 0 → raised x a ≡ x
unfolding raised
raised-none x a z = rw (eq-eqb a 0 z)

pub raised_is : {x : Float} {k : ℕ} (a : ℕ) → Is x k → k + a ≤ most → Is (raised x a) (k + a)
unfolding raised
raised_is {x} {k} a p h =
    ⊎_elim
    (λ z. let e : k + a ≡ k = omega arith in rw (eq-eqb a 0 z, e) p)
    (λ g. rw (ne_eqb a 0 (λ z. omega arith)) (add-whole p (of_int_lem a (omega arith)) (omega arith)))
    (eq-zero-or-pos a)

-- ---- a list
module _ (n : ℕ) (l : List Float) (awards : List ℕ) (long : n ≤ length l) where
  raised_at : (i : ℕ) → i < n → get_or (raised_all n l awards) i nan ≡ raised (get_or l i nan) (get_or awards i 0)
  unfolding raised_all
  raised_at i h = filled_at l (λ i. raised (get_or l i nan) (get_or awards i 0)) n i nan h long

  -- where the award is 0, and from n on, the very amount stays
  pub unmoved : (i : ℕ) → (i < n → get_or awards i 0 ≡ 0) → get_or (raised_all n l awards) i nan ≡ get_or l i nan
  unfolding raised_all
  unmoved i z =
      ⊎_elim
      (λ h. raised_at i h ∙ raised-none (get_or l i nan) (get_or awards i 0) (z h))
      (λ g. filled-out l (λ i. raised (get_or l i nan) (get_or awards i 0)) n i nan g)
      (lt_or_le i n)

  -- whole amounts, with room for the awards
  module _ (whole : (i : ℕ) → i < n → Is (get_or l i nan) (chips_at l i)) (room : (i : ℕ) → i < n → chips_at l i + get_or awards i 0 ≤ most) where
    pub raised_to : (i : ℕ) → i < n → Is (get_or (raised_all n l awards) i nan) (chips_at l i + get_or awards i 0)
    raised_to i h = rw (raised_at i h) (raised_is (get_or awards i 0) (whole i h) (room i h))

    pub grows : (i : ℕ) → i < n → chips_at (raised_all n l awards) i ≡ chips_at l i + get_or awards i 0
    grows i h = chips_are _ _ (raised_to i h) (room i h)

    pub sum-grows : sum_chips (raised_all n l awards) n ≡ sum_chips l n + sum_to n (λ i. get_or awards i 0)
    unfolding sum_chips
    sum-grows =
        sum_same n (chips_at (raised_all n l awards)) (λ i. chips_at l i + get_or awards i 0) grows
        ∙ sum-add n (chips_at l) (λ i. get_or awards i 0)
