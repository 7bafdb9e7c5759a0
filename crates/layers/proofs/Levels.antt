-- The levels of a hand, and the layers that go by them: which bet makes a level, and that no layer lies between a level and the one below.
-- Assumes nothing.
use Prim.Native.Nat.{ℕ, suc, ◌≤◌, ◌<◌}
use native.Mathlib.Nat.{eq-zero-or-pos}
use native.Mathlib.Omega.{arith}
use mathlib.Core.Path.{◌≡◌}
use mathlib.Core.Logic.{⊎_elim}
use mathlib.Core.Bool.{true, false, ◌&&◌, or-true}
use lib.Bits.{bit_or}
use lib.Dec.{ltb, eqb}
use borrow.Author.Tests.{lt-ltb, eq-eqb, ltb-true, eqb-true}
use Rattle.seats.specs.Bits.{has}
use Rattle.commons.proofs.Bools.{differ, and_both, or_cases}
use Rattle.commons.proofs.Order.{lt_or_le}
use Rattle.commons.proofs.Folds.{sum-part, most-le, most-at, any_some, any_at}
use Rattle.layers.specs.declared.Hand.{Hand}
use Rattle.commons.specs.Folds.{any_to}
use Rattle.layers.specs.Settlement.{bet, contends, is_level, top, level_below, is_layer, pot_of}

-- a contender's hand bet is u
pub record Bet (h : Hand) (u : ℕ) : Type 0 where
  pub seat : ℕ
  pub low : seat < h.n
  pub is_in : contends h seat ≡ true
  pub equal : bet h seat ≡ u

-- 0 is at most anything
if_pos : (x y : ℕ) → (0 < x → x ≤ y) → x ≤ y
if_pos x y f = ⊎_elim (λ z. omega arith) f (eq-zero-or-pos x)

module _ (h : Hand) where
  pub contends-is : (i : ℕ) → i < h.n → contends h i ≡ has (bit_or h.active h.all_in) i
  unfolding contends
  contends-is i l = rw (lt-ltb i h.n l)

  pub contends_in : (i : ℕ) → contends h i ≡ true → i < h.n
  unfolding contends
  contends_in i c = ltb-true i h.n (and_both (ltb i h.n) (has (bit_or h.active h.all_in) i) c).0

  -- ---- the top and the level below are the largest of some bets
  pub top-most : (v : ℕ) → Bet h v → v ≤ top h
  unfolding top
  top-most v w = rw w.equal at (most-le h.n (contends h) (bet h) w.seat w.low w.is_in)

  pub top-at : 0 < top h → Bet h (top h)
  unfolding top
  top-at p = let w = most-at h.n (contends h) (bet h) p in record { seat = w.0; low = w.1; is_in = w.2; equal = w.3 }

  pub under : (u v : ℕ) → Bet h v → v < u → v ≤ level_below h u
  unfolding level_below
  under u v w l =
      let t : ltb (bet h w.seat) u ≡ true = lt-ltb (bet h w.seat) u (omega (arith, w.equal)) in
      rw w.equal at (most-le h.n (λ i. contends h i && ltb (bet h i) u) (bet h) w.seat w.low (rw w.is_in t))

  pub below_at : (u : ℕ) → 0 < level_below h u → Bet h (level_below h u) × (level_below h u < u)
  unfolding level_below
  below_at u p =
      let w = most-at h.n (λ i. contends h i && ltb (bet h i) u) (bet h) p in
      let b = and_both (contends h w.0) (ltb (bet h w.0) u) w.2 in
      (record { seat = w.0; low = w.1; is_in = b.0; equal = w.3 }, omega (arith, w.3, ltb-true (bet h w.0) u b.1))

  pub below-le : (u : ℕ) → level_below h u ≤ u
  below-le u = if_pos (level_below h u) u (λ p. omega (arith, (below_at u p).1))

  -- no bet is above the pot
  bet-pot : (v : ℕ) → Bet h v → v ≤ pot_of h
  unfolding pot_of
  bet-pot v w = rw w.equal at (sum-part h.n (bet h) w.seat w.low)

  pub top-pot : top h ≤ pot_of h
  top-pot = if_pos (top h) (pot_of h) (λ p. bet-pot (top h) (top-at p))

  -- above the pot, the level below is the top
  pub top-is : (u : ℕ) → pot_of h < u → level_below h u ≡ top h
  top-is u l =
      omega (
        arith,
        if_pos (level_below h u) (top h) (λ p. top-most (level_below h u) (below_at u p).0),
        if_pos (top h) (level_below h u) (λ p. under u (top h) (top-at p) (omega (arith, top-pot))),
      )

  -- ---- levels are the positive bets of contenders
  pub level-at : (u : ℕ) → is_level h u ≡ true → (0 < u) × Bet h u
  unfolding is_level
  level-at u e =
      let b = and_both (ltb 0 u) (any_to h.n (λ i. contends h i && eqb (bet h i) u)) e in
      let w = any_at h.n (λ i. contends h i && eqb (bet h i) u) b.1 in
      let c = and_both (contends h w.0) (eqb (bet h w.0) u) w.2 in
      (ltb-true 0 u b.0, record { seat = w.0; low = w.1; is_in = c.0; equal = eqb-true (bet h w.0) u c.1 })

  pub is-level : (u : ℕ) → 0 < u → Bet h u → is_level h u ≡ true
  unfolding is_level
  is-level u p w =
      rw (lt-ltb 0 u p)
      (any_some h.n (λ i. contends h i && eqb (bet h i) u) w.seat w.low (rw w.is_in (eq-eqb (bet h w.seat) u w.equal)))

  -- ---- layers
  level_layer : (u : ℕ) → is_level h u ≡ true → is_layer h u ≡ true
  unfolding is_layer
  level_layer u e = rw e

  pub top_layer : is_layer h (top h) ≡ true
  unfolding is_layer
  top_layer =
      ⊎_elim
      (λ z. rw (eq-eqb (top h) 0 z) (or-true (is_level h (top h))))
      (λ p. rw (is-level (top h) p (top-at p)))
      (eq-zero-or-pos (top h))

  pub below_layer : (u : ℕ) → 0 < level_below h u → is_layer h (level_below h u) ≡ true
  below_layer u p = level_layer (level_below h u) (is-level (level_below h u) p (below_at u p).0)

  -- below the top each layer goes by a level
  pub layer_level : (u : ℕ) → u < top h → is_layer h u ≡ true → is_level h u ≡ true
  unfolding is_layer
  layer_level u l e =
      ⊎_elim
      (λ y. y)
      (λ z. absurd (omega (arith, eqb-true (top h) 0 (and_both (eqb u 0) (eqb (top h) 0) z).1)))
      (or_cases (is_level h u) (eqb u 0 && eqb (top h) 0) e)

  -- a layer under u goes by the level below u, or a lower one
  pub layer_under : (u v : ℕ) → u ≤ top h → v < u → is_layer h v ≡ true → (0 < v) × (v ≤ level_below h u)
  layer_under u v t l e = let w = level-at v (layer_level v (omega arith) e) in (w.0, under u v w.1 l)

  -- ---- one step up, the level below is this one, or stays
  pub below-here : (u : ℕ) → u < top h → is_layer h u ≡ true → level_below h (suc u) ≡ u
  below-here u l e =
      let w = level-at u (layer_level u l e) in
      let b : u ≤ level_below h (suc u) = under (suc u) u w.1 (omega arith) in
      omega (arith, (below_at (suc u) (omega (arith, w.0))).1)

  pub below-same : (u : ℕ) → is_layer h u ≡ false → level_below h (suc u) ≡ level_below h u
  below-same u n =
      omega (
        arith,
        if_pos (level_below h u) (level_below h (suc u)) (λ p. let w = below_at u p in under (suc u) (level_below h u) w.0 (omega (arith, w.1))),
        if_pos (level_below h (suc u)) (level_below h u) down,
      )
    where
      here : level_below h (suc u) ≡ u → 0 < level_below h (suc u) → ⊥
      here e p = differ (is_layer h u) (rw e at (below_layer (suc u) p)) n

      down : 0 < level_below h (suc u) → level_below h (suc u) ≤ level_below h u
      down p =
          let w = below_at (suc u) p in
          ⊎_elim (λ l. under u (level_below h (suc u)) w.0 l) (λ g. absurd (here (omega (arith, w.1)) p)) (lt_or_le (level_below h (suc u)) u)
