-- What settlement may rely on: the awards of a payable hand add up to the pot, only contenders get any, and the winners of a layer share it evenly.
-- And any pair of results that the `ensures` of a public function allows is equal. Assumes nothing.
use Prim.Native.Nat.{ℕ, ◌+◌, ◌≤◌, ◌<◌}
use native.Mathlib.Nat.{eq-zero-or-pos}
use native.Mathlib.Omega.{arith}
use mathlib.Core.Path.{◌≡◌, sym, ◌∙◌}
use mathlib.Core.Logic.{⊎_elim}
use mathlib.Core.Bool.{true, false}
use lib.ListN.{length, get_or-replicate, get_or-eq_default}
use Rattle.commons.proofs.OneResult.{OneResult, same, only}
use Rattle.seats.specs.Bits.{has}
use Rattle.commons.proofs.Bools.{either, surely, never}
use Rattle.commons.proofs.Order.{lt_or_le}
use Rattle.commons.proofs.Filled.{filled_at, filled-long}
use Rattle.commons.specs.Folds.{sum_to}
use Rattle.commons.proofs.Folds.{sum_same}
use Rattle.layers.specs.declared.Hand.{Hand}
use Rattle.layers.specs.Sharing.{ahead}
use Rattle.layers.specs.Settlement.{rank, contends, pot_of, holds, reached, wins, winners, share, award, is_payable, nothing, awards_of, awarded}
use Rattle.layers.proofs as crate
use Rattle.layers.specs.contracts as promised
use Rattle.layers.proofs.Levels.{contends_in}
use Rattle.layers.proofs.Payable.{payable}
use Rattle.layers.proofs.Sharing.{share_near, share_order}
use Rattle.layers.proofs.Whole.{awards-whole, outsider, award-le}
use Rattle.layers.proofs.Winning.{best-most, winner-reached, winner-best, has-winners, loser}

-- ---- one result: any pair that the `ensures` of a public function allows is equal
pub is-payable : OneResult promised.is_payable.ended crate.is_payable.Reads.Learnt
is-payable κs a x y = only same

pub awards : OneResult promised.awards.ended crate.awards.Reads.Learnt
awards κs a x y = only same

-- how many winners of the layer under u come ahead of seat i
abbrev pub comes : Hand → ℕ → ℕ → ℕ
comes h u i = ahead h.n h.first (winners h u) i

module _ (h : Hand) where
  pub awards-long : length (awards_of h) ≡ 16
  unfolding awards_of
  awards-long = ⊎_elim (λ y. rw y (filled-long nothing (award h) 16)) (λ f. rw f) (either (is_payable h))

  -- ---- what each place has
  pub awarded-none : is_payable h ≡ false → (i : ℕ) → awarded h i ≡ 0
  unfolding awards_of
  awarded-none f i =
      rw f
      (⊎_elim (λ l. get_or-replicate {A = ℕ} 16 i 0 0 l) (λ g. get_or-eq_default nothing 0 g) (lt_or_le i 16))

  pub awarded-is : is_payable h ≡ true → (i : ℕ) → awarded h i ≡ award h i
  unfolding awards_of
  awarded-is y i = ⊎_elim low high (lt_or_le i 16)
    where
      low : i < 16 → awarded h i ≡ award h i
      low l = rw y (filled_at nothing (award h) 16 i 0 l (omega arith))

      high : 16 ≤ i → awarded h i ≡ award h i
      high g =
          let p = payable h y in
          get_or-eq_default (awards_of h) 0 (omega (arith, awards-long))
          ∙ sym (outsider h p i (never (contends h i) (λ c. omega (arith, contends_in h i c, p.few))))

  -- ---- the awards
  pub awards-add : is_payable h ≡ true → sum_to h.n (awarded h) ≡ pot_of h
  awards-add y = sum_same h.n (awarded h) (award h) (λ i l. awarded-is y i) ∙ awards-whole h (payable h y)

  pub awarded-le : (i : ℕ) → awarded h i ≤ pot_of h
  awarded-le i =
      ⊎_elim
      (λ y. omega (arith, awarded-is y i, award-le h (payable h y) i))
      (λ n. omega (arith, awarded-none n i))
      (either (is_payable h))

  pub to_contenders : (i : ℕ) → 0 < awarded h i → contends h i ≡ true
  to_contenders i p =
      let y = surely (is_payable h) (λ n. omega (arith, awarded-none n i)) in
      surely (contends h i) (λ f. omega (arith, awarded-is y i, outsider h (payable h y) i f))

  pub none_after : (i : ℕ) → h.n ≤ i → awarded h i ≡ 0
  none_after i g = ⊎_elim (λ z. z) (λ p. absurd (omega (arith, contends_in h i (to_contenders i p)))) (eq-zero-or-pos (awarded h i))

  -- ---- one layer
  module _ (y : is_payable h ≡ true) (u : ℕ) where
    in_set : (i : ℕ) → wins h u i ≡ true → has (winners h u) i ≡ true
    in_set i w = has-winners h (payable h y).few u i ∙ w

    pub to_winners : (i : ℕ) → 0 < share h u i → wins h u i ≡ true
    to_winners i p = surely (wins h u i) (λ f. omega (arith, loser h (payable h y).few u i f))

    -- only those who reached it share it, and none who did has a better rank
    pub to_best : (i : ℕ) → 0 < share h u i → (reached h u i ≡ true) × ((j : ℕ) → reached h u j ≡ true → rank h j ≤ rank h i)
    to_best i p =
        let w = to_winners i p in
        (winner-reached h u i w, λ j r. omega (arith, best-most h u j r, winner-best h u i w))

    -- its winners get the same but for one chip, and one who comes earlier, going round from the seat `first`, gets no less
    pub shares_near : (i j : ℕ) → wins h u i ≡ true → wins h u j ≡ true → share h u i ≤ share h u j + 1
    unfolding share
    shares_near i j v w = share_near h.n h.first (winners h u) (holds h u) i j (in_set i v) (in_set j w)

    pub shares_in_order : (i j : ℕ) → wins h u i ≡ true → wins h u j ≡ true → comes h u i ≤ comes h u j → share h u j ≤ share h u i
    unfolding share
    shares_in_order i j v w l = share_order h.n h.first (winners h u) (holds h u) i j (in_set i v) (in_set j w) l
