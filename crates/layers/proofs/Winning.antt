-- Who wins a layer: up to the top somebody reached it, those of the best rank among them win it, and they share all of it.
-- Assumes nothing.
use Prim.Native.Nat.{ℕ, ◌≤◌, ◌<◌}
use native.Mathlib.Nat.{eq-zero-or-pos}
use native.Mathlib.Omega.{arith}
use mathlib.Core.Path.{◌≡◌, refl, ◌∙◌}
use mathlib.Core.Logic.{⊎_elim}
use mathlib.Core.Bool.{Bool, true, false, ◌&&◌, and-false}
use lib.Dec.{leb, ltb, eqb}
use borrow.Author.Tests.{lt-ltb, le-leb, eq-eqb, eqb-true}
use Rattle.seats.specs.Bits.{has, count_to}
use Rattle.commons.proofs.Bools.{and_both}
use Rattle.layers.specs.declared.Hand.{Hand}
use Rattle.commons.specs.Folds.{any_to}
use Rattle.layers.specs.Settlement.{bet, rank, contends, top, holds, reached, best, wins, winners, share}
use Rattle.commons.proofs.Folds.{most-le, most-at, any_at}
use Rattle.layers.proofs.Levels.{contends_in, top-at}
use Rattle.layers.proofs.Seats.{count-some, where_has}
use Rattle.layers.proofs.Sharing.{share-none}

module _ (h : Hand) where
  -- ---- who reached a level
  pub reached-contends : (u i : ℕ) → reached h u i ≡ true → contends h i ≡ true
  unfolding reached
  reached-contends u i r = (and_both (contends h i) (leb u (bet h i)) r).0

  reaches : (u i : ℕ) → contends h i ≡ true → u ≤ bet h i → reached h u i ≡ true
  unfolding reached
  reaches u i c l = rw (c, le-leb u (bet h i) l)

  someone : any_to h.n (contends h) ≡ true → (u : ℕ) → u ≤ top h → (i : ℕ) × (reached h u i ≡ true)
  someone a u l =
      ⊎_elim
      (λ z. let w = any_at h.n (contends h) a in (w.0, reaches u w.0 w.2 (omega arith)))
      (λ p. let w = top-at h p in (w.seat, reaches u w.seat w.is_in (omega (arith, w.equal))))
      (eq-zero-or-pos (top h))

  -- ---- the best of them
  pub best-most : (u i : ℕ) → reached h u i ≡ true → rank h i ≤ best h u
  unfolding best
  best-most u i r = most-le h.n (reached h u) (rank h) i (contends_in h i (reached-contends u i r)) r

  pub winner-reached : (u i : ℕ) → wins h u i ≡ true → reached h u i ≡ true
  unfolding wins
  winner-reached u i w = (and_both (reached h u i) (eqb (rank h i) (best h u)) w).0

  pub winner-best : (u i : ℕ) → wins h u i ≡ true → rank h i ≡ best h u
  unfolding wins
  winner-best u i w = eqb-true (rank h i) (best h u) (and_both (reached h u i) (eqb (rank h i) (best h u)) w).1

  pub best-wins : (u i : ℕ) → reached h u i ≡ true → rank h i ≡ best h u → wins h u i ≡ true
  unfolding wins
  best-wins u i r e = rw (r, eq-eqb (rank h i) (best h u) e)

  -- equal ranks share
  pub equal-wins : (u i j : ℕ) → wins h u i ≡ true → reached h u j ≡ true → rank h j ≡ rank h i → wins h u j ≡ true
  equal-wins u i j w r e = best-wins u j r (e ∙ winner-best u i w)

  winner : any_to h.n (contends h) ≡ true → (u : ℕ) → u ≤ top h → (i : ℕ) × (wins h u i ≡ true)
  unfolding best
  winner a u l =
      ⊎_elim
      (λ z. let w = someone a u l in (w.0, best-wins u w.0 w.1 (omega (arith, best-most u w.0 w.1))))
      (λ p. let w = most-at h.n (reached h u) (rank h) p in (w.0, best-wins u w.0 w.2 w.3))
      (eq-zero-or-pos (best h u))

  pub wins_in : (u i : ℕ) → wins h u i ≡ true → i < h.n
  wins_in u i w = contends_in h i (reached-contends u i (winner-reached u i w))

  -- ---- the set of the winners
  module _ (few : h.n ≤ 16) where
    pub has-winners : (u i : ℕ) → has (winners h u) i ≡ wins h u i
    has-winners u i = where_has (wins h u) h.n i few ∙ at (wins h u i) refl
      where
        at : (b : Bool) → wins h u i ≡ b → (ltb i h.n && b) ≡ b
        at true e = rw (lt-ltb i h.n (wins_in u i e))
        at false e = and-false (ltb i h.n)

    -- somebody wins, up to the top
    pub some-winner : any_to h.n (contends h) ≡ true → (u : ℕ) → u ≤ top h → 0 < count_to h.n (winners h u)
    some-winner a u l =
        let w = winner a u l in
        count-some h.n (winners h u) w.0 (wins_in u w.0 w.1) (has-winners u w.0 ∙ w.1)

    -- who does not win a layer gets nothing of it
    pub loser : (u i : ℕ) → wins h u i ≡ false → share h u i ≡ 0
    unfolding share
    loser u i f = share-none h.n h.first (winners h u) (holds h u) i (has-winners u i ∙ f)
