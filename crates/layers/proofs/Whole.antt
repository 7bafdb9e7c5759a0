-- The awards add up to the pot: each layer is paid out whole, and the layers hold the pot. Only contenders get any of it.
-- Assumes nothing.
use Prim.Native.Nat.{ℕ, suc, ◌≤◌, ◌<◌}
use native.Mathlib.Omega.{arith}
use mathlib.Core.Path.{◌≡◌, refl, ◌∙◌}
use mathlib.Core.Logic.{⊎_elim}
use mathlib.Core.Bool.{Bool, true, false, cond}
use Rattle.commons.proofs.Bools.{either, differ, never}
use Rattle.commons.specs.Folds.{sum_to}
use Rattle.commons.proofs.Folds.{sum_same, sum-part, sum-zero, sum_swap}
use Rattle.layers.specs.declared.Hand.{Hand}
use Rattle.layers.specs.Settlement.{contends, top, is_layer, pot_of, holds, wins, winners, share, award}
use Rattle.layers.proofs.Holding.{chips, layers_add}
use Rattle.layers.proofs.Levels.{contends_in}
use Rattle.layers.proofs.Payable.{Payable}
use Rattle.layers.proofs.Sharing.{shares-add}
use Rattle.layers.proofs.Winning.{reached-contends, winner-reached, some-winner, loser}

-- what seat i gets of the layer under u, where there is one
abbrev pub gets : Hand → ℕ → ℕ → ℕ
gets h i u = cond (is_layer h u) (share h u i) 0

module _ (h : Hand) (p : Payable h) where
  pub layer_paid : (u : ℕ) → u ≤ top h → sum_to h.n (share h u) ≡ holds h u
  unfolding share
  layer_paid u l = shares-add h.n h.first (winners h u) (holds h u) (omega (arith, p.seated)) (some-winner h p.few p.someone u l)

  pub awards-whole : sum_to h.n (award h) ≡ pot_of h
  unfolding award
  awards-whole =
      sum_swap h.n (suc (top h)) (λ u i. gets h i u)
      ∙ sum_same (suc (top h)) (λ u. sum_to h.n (λ i. gets h i u)) (chips h) (λ u l. at u l (is_layer h u))
      ∙ layers_add h
    where
      at : (u : ℕ) → u < suc (top h) → (y : Bool) → sum_to h.n (λ i. cond y (share h u i) 0) ≡ cond y (holds h u) 0
      at u l true = layer_paid u (omega arith)
      at u l false = sum-zero h.n

  pub outsider : (i : ℕ) → contends h i ≡ false → award h i ≡ 0
  unfolding award
  outsider i f = sum_same (suc (top h)) (gets h i) (λ u. 0) (λ u l. rw (loser h p.few u i (loses u)) (none (is_layer h u))) ∙ sum-zero (suc (top h))
    where
      none : (b : Bool) → ◌≡◌ {A = ℕ} (cond b 0 0) 0
      none true = refl
      none false = refl

      loses : (u : ℕ) → wins h u i ≡ false
      loses u = never (wins h u i) (λ y. differ (contends h i) (reached-contends h u i (winner-reached h u i y)) f)

  pub award-le : (i : ℕ) → award h i ≤ pot_of h
  award-le i =
      ⊎_elim
      (λ c. omega (arith, sum-part h.n (award h) i (contends_in h i c), awards-whole))
      (λ f. omega (arith, outsider i f))
      (either (contends h i))
