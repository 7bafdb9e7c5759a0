-- The layers paid out from the top down: what each seat has been paid, and what the layers still to come give it, is its award.
-- Assumes nothing.
use Prim.Native.Nat.{ℕ, suc, ◌+◌, ◌-◌, ◌≤◌, ◌<◌}
use native.Mathlib.Nat.{eq-zero-or-pos}
use native.Mathlib.Omega.{arith}
use mathlib.Core.Path.{◌≡◌, refl, sym, ap, ◌∙◌}
use mathlib.Core.Logic.{◌⊎◌, inl, inr, ⊎_elim}
use mathlib.Core.Bool.{true, false}
use mathlib.Core.List.{List}
use lib.ListN.{get_or, length, get_or-replicate}
use lib.Seq.{ext_get_or}
use Rattle.seats.specs.Bits.{count_to}
use Rattle.commons.proofs.Bools.{either}
use Rattle.commons.specs.Filled.{filled}
use Rattle.commons.proofs.Filled.{filled_at, filled-long}
use Rattle.commons.specs.Folds.{sum_to}
use Rattle.layers.specs.declared.Hand.{Hand}
use Rattle.layers.specs.Sharing.{share_of}
use Rattle.layers.specs.Settlement.{top, level_below, is_layer, pot_of, put_in, holds, winners, share, award, nothing, is_payable, awards_of}
use Rattle.commons.proofs.Folds.{sum-stays}
use Rattle.layers.proofs.Holding.{held_to, put_all, put-enough, holds-le, at_top, under_top}
use Rattle.layers.proofs.Levels.{top-is, top_layer, below_at, below_layer, layer_under}
use Rattle.layers.proofs.Payable.{payable}
use Rattle.layers.proofs.Whole.{gets, award-le}
use Rattle.layers.proofs.Winning.{some-winner}

above-none : {l : ℕ} → (l ≡ 0 → ⊥) → 0 < l
above-none {l} n = ⊎_elim (λ z. absurd (n z)) (λ p. p) (eq-zero-or-pos l)

-- the layers above u are paid
pub record Paying (h : Hand) (paid : List ℕ) (u held : ℕ) : Type 0 where
  pub pays : is_payable h ≡ true
  pub bound : u ≤ top h
  pub here : is_layer h u ≡ true
  pub left : held ≡ held_to h u
  pub long : length paid ≡ 16
  pub rest : (i : ℕ) → i < 16 → get_or paid i 0 + sum_to (suc u) (gets h i) ≡ award h i

module _ (h : Hand) where
  pub starts : is_payable h ≡ true → (u held : ℕ) → u ≡ level_below h 8001 → held ≡ put_in h 8001 → Paying h nothing u held
  unfolding award
  starts y u held a b =
      let l : pot_of h ≤ 8000 = (payable h y).limit in
      let t : u ≡ top h = a ∙ top-is h 8001 (omega arith) in
      record {
        pays = y;
        bound = omega arith;
        here = rw t (top_layer h);
        left = rw t (b ∙ put_all h 8001 (omega arith) ∙ sym (at_top h));
        long = refl;
        rest = λ i k. rw (t, get_or-replicate {A = ℕ} 16 i 0 0 k) (omega arith);
      }

  -- no layer lies between u and the level below
  skips : (u a i : ℕ) → u ≤ top h → a ≤ u → ((v : ℕ) → a ≤ v → 0 < v → v ≤ level_below h u → ⊥) → sum_to u (gets h i) ≡ sum_to a (gets h i)
  skips u a i t l n = sum-stays a u (gets h i) l (λ v b k. at v b k (either (is_layer h v)))
    where
      at : (v : ℕ) → a ≤ v → v < u → (is_layer h v ≡ true) ⊎ (is_layer h v ≡ false) → gets h i v ≡ 0
      at v b k (inl y) = let w = layer_under h u v t k y in absurd (n v b w.0 w.1)
      at v b k (inr f) = rw f

  pub falls : (u l : ℕ) → l ≡ level_below h u → (l ≡ 0 → ⊥) → l < u
  falls u l a n = rw a (below_at h u (rw a at (above-none n))).1

  -- ---- a turn: l is the level below u, low what was put in up to it
  module _ {paid : List ℕ} {u held l low : ℕ} (s : Paying h paid u held) (a : l ≡ level_below h u) (b : low ≡ put_in h l) where
    pub enough : low ≤ held
    enough = rw (s.left, b, a) (put-enough h u)

    amount-is : held - low ≡ holds h u
    unfolding holds
    amount-is = rw (s.left, b, a)

    pub amount-le : held - low ≤ 8000
    amount-le = omega (arith, amount-is, holds-le h u, (payable h s.pays).limit)

  -- the set has the winners
  module _ {paid : List ℕ} {u held l low set : ℕ} (s : Paying h paid u held) (a : l ≡ level_below h u) (b : low ≡ put_in h l) (c : set ≡ winners h u) where
    -- what sharing asks
    pub asked : ((h.n ≤ 16) × (h.first ≤ h.n)) × ((0 < count_to h.n set) × ((held - low ≤ 8000) × ((i : ℕ) → i < 16 → get_or paid i 0 ≤ 8000)))
    asked =
        let p = payable h s.pays in (
          (p.few, omega (arith, p.seated)),
          (
            rw c (some-winner h p.few p.someone u s.bound),
            (amount-le s a b, λ i k. omega (arith, s.rest i k, award-le h p i, p.limit)),
          ),
        )

    -- the layer is paid
    module _ (more : List ℕ) (e : more ≡ filled 16 paid (λ i. get_or paid i 0 + share_of h.n h.first set (held - low) i)) where
      more-long : length more ≡ 16
      more-long = ap length e ∙ filled-long paid _ 16 ∙ s.long

      has-now : (i : ℕ) → i < 16 → get_or more i 0 + sum_to u (gets h i) ≡ award h i
      unfolding sum_to share
      has-now i k =
          let m : get_or more i 0 ≡ get_or paid i 0 + share h u i = rw e (filled_at paid _ 16 i 0 k (omega (arith, s.long)) ∙ rw (c, amount-is s a b)) in
          let r : get_or paid i 0 + (sum_to u (gets h i) + share h u i) ≡ award h i = rw s.here at (s.rest i k) in
          omega arith

      pub goes_on : (l ≡ 0 → ⊥) → Paying h more l low
      goes_on n =
          let z : l < u = falls u l a n in
          record {
            pays = s.pays;
            bound = omega (arith, s.bound);
            here = rw a (below_layer h u (rw a at (above-none n)));
            left = b ∙ sym (under_top h l (omega (arith, s.bound)));
            long = more-long;
            rest = λ i k. rw (← skips u (suc l) i s.bound z (λ v g q m. omega arith)) (has-now i k);
          }

      pub ends : l ≡ 0 → more ≡ awards_of h
      unfolding awards_of sum_to
      ends z =
          rw s.pays
          (ext_get_or 0 more (filled 16 nothing (award h)) (more-long ∙ sym (filled-long nothing (award h) 16))
          (λ i k.
          let j : i < 16 = omega (arith, more-long) in
          let n : sum_to u (gets h i) ≡ 0 = skips u 0 i s.bound (omega arith) (λ v g q m. omega arith) in
          omega (arith, has-now i j, filled_at nothing (award h) 16 i 0 j (omega arith))))
