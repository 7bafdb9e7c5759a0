-- What the layers hold adds up to the pot: the layers under u hold what was put in up to the level below u, and the top one the rest.
-- Assumes nothing.
use Prim.Native.Nat.{ℕ, zero, suc, ◌+◌, ◌-◌, ◌≤◌, ◌<◌, min}
use native.Mathlib.Omega.{arith}
use mathlib.Core.Path.{◌≡◌, refl, sym, ap, ◌∙◌}
use mathlib.Core.Bool.{Bool, true, false, cond}
use mathlib.Core.Logic.{⊎_elim}
use lib.Dec.{leb, eqb}
use borrow.Author.Tests.{lt-leb, eq-eqb, ne_eqb}
use Rattle.commons.proofs.Order.{lt_or_le}
use Rattle.commons.specs.Folds.{sum_to}
use Rattle.commons.proofs.Folds.{sum_same, sum_mono, sum-part, sum-zero}
use Rattle.layers.specs.declared.Hand.{Hand}
use Rattle.layers.specs.Settlement.{bet, top, level_below, is_layer, pot_of, put_in, holds}
use Rattle.layers.proofs.Levels.{below-le, top_layer, below-here, below-same}

-- what the layers up to the one under u hold: all of it at the top
abbrev pub held_to : Hand → ℕ → ℕ
held_to h u = cond (eqb u (top h)) (pot_of h) (put_in h u)

-- a layer's chips, 0 where there is no such layer
abbrev pub chips : Hand → ℕ → ℕ
chips h u = cond (is_layer h u) (holds h u) 0

module _ (h : Hand) where
  pub put-more : (u v : ℕ) → u ≤ v → put_in h u ≤ put_in h v
  unfolding put_in
  put-more u v l = sum_mono h.n (λ i. min (bet h i) u) (λ i. min (bet h i) v) (λ i k. omega arith)

  pub put-pot : (u : ℕ) → put_in h u ≤ pot_of h
  unfolding put_in pot_of
  put-pot u = sum_mono h.n (λ i. min (bet h i) u) (bet h) (λ i k. omega arith)

  put-none : put_in h 0 ≡ 0
  unfolding put_in
  put-none = sum_same h.n (λ i. min (bet h i) 0) (λ i. 0) (λ i k. omega arith) ∙ sum-zero h.n

  -- ---- what is put in up to u is all, where the pot is no more; and it shows whether the pot passes a limit
  pub put_all : (u : ℕ) → pot_of h ≤ u → put_in h u ≡ pot_of h
  unfolding put_in pot_of
  put_all u l = sum_same h.n (λ i. min (bet h i) u) (bet h) (λ i k. omega (arith, sum-part h.n (bet h) i k))

  pub pot-limit : (u : ℕ) → leb (put_in h (suc u)) u ≡ leb (pot_of h) u
  unfolding put_in pot_of
  pot-limit u =
      ⊎_elim
      (λ l. ap (λ (s : ℕ). leb s u) (sum_same h.n (λ i. min (bet h i) (suc u)) (bet h) (λ i k. omega (arith, sum-part h.n (λ i. min (bet h i) (suc u)) i k))))
      (λ g. rw (lt-leb (put_in h (suc u)) u g, lt-leb (pot_of h) u (omega (arith, put-pot (suc u)))))
      (lt_or_le (put_in h (suc u)) (suc u))

  -- ---- what a layer holds was put in above the level below
  pub put-enough : (u : ℕ) → put_in h (level_below h u) ≤ held_to h u
  put-enough u = at (eqb u (top h))
    where
      at : (b : Bool) → put_in h (level_below h u) ≤ cond b (pot_of h) (put_in h u)
      at true = put-pot (level_below h u)
      at false = put-more (level_below h u) u (below-le h u)

  pub holds-le : (u : ℕ) → holds h u ≤ pot_of h
  unfolding holds
  holds-le u = at (eqb u (top h))
    where
      at : (b : Bool) → cond b (pot_of h) (put_in h u) - put_in h (level_below h u) ≤ pot_of h
      at true = omega arith
      at false = omega (arith, put-pot u)

  -- ---- all layers
  pub at_top : held_to h (top h) ≡ pot_of h
  at_top = rw (eq-eqb (top h) (top h) refl)

  pub under_top : (u : ℕ) → u < top h → held_to h u ≡ put_in h u
  under_top u l = rw (ne_eqb u (top h) (λ e. omega arith))

  layers_to : (u : ℕ) → u ≤ top h → sum_to u (chips h) ≡ put_in h (level_below h u)
  unfolding sum_to holds
  layers_to zero l = let z : level_below h 0 ≡ 0 = omega (arith, below-le h 0) in sym (rw z put-none)
  layers_to (suc u) l = at (is_layer h u) refl (layers_to u (omega arith))
    where
      at : (y : Bool) → is_layer h u ≡ y → sum_to u (chips h) ≡ put_in h (level_below h u) → sum_to u (chips h) + cond y (holds h u) 0 ≡ put_in h (level_below h (suc u))
      at true e r = rw (below-here h u l e) (omega (arith, under_top u l, put-more (level_below h u) u (below-le h u)))
      at false e r = rw (below-same h u e) (omega arith)

  pub layers_add : sum_to (suc (top h)) (chips h) ≡ pot_of h
  unfolding sum_to holds
  layers_add = rw (top_layer h, at_top) (omega (arith, layers_to (top h) (omega arith), put-pot (level_below h (top h))))
