-- What a bet of a whole amount moves, whatever the tests of its size: no more than the stack goes in, or, above 8,000 chips, where an amount below the round bet can
-- pass, no more than the round bet comes back. Assumes nothing.
use Prim.Native.Nat.{ℕ, ◌+◌, ◌-◌, ◌*◌, ◌^◌, ◌≤◌, ◌<◌}
use native.Mathlib.Nat.{le_refl, mul-le-mul_right}
use native.Mathlib.Omega.{arith}
use mathlib.Core.Path.{◌≡◌, refl, ap}
use mathlib.Core.Logic.{⊎_elim}
use mathlib.Core.Bool.{true, false, not, not-not}
use lib.Pow.{pow_pos}
use lib.Ieee.{Float, nan, inf, fin, binary32, add, sub, neg, lt}
use lib.Ieee.Exact.{HasValue}
use lib.Ieee.Positive.{num, den}
use Rattle.commons.proofs.Order.{lt_or_le}
use Rattle.floats.specs.Helpers.{min_of}
use Rattle.bets.specs.Bet.{payment_of}
use Rattle.chips.specs.Rule.{Amount, chips, endless}
use Rattle.chips.proofs.Value.{Plain, Is, of-value}
use Rattle.chips.proofs.Round.{inf-lt, not-under}
use Rattle.chips.proofs.Add.{sub-round, positive-round, over-pos, num-left, num-right, add-whole, sub-whole, sub_negative}
use Rattle.chips.proofs.Helpers.{not-nan, min-whole, min-first}
use Rattle.chips.proofs.Amounts.{Means}
use Rattle.commons.proofs.Bools.{pick}

-- x against a round bet of P and a stack of K
pub data Flow (x : Float) (P K : ℕ) : Type 0 where
  goes_in_lem : (X : ℕ) → Is x X → X ≤ K → Flow x P K
  comes_back : (X : ℕ) → Is (neg x) X → X ≤ P → Flow x P K

-- ---- with its sign turned
turned : (x : Float) (X : ℕ) → HasValue x true X 1 → Is (neg x) X
unfolding neg
turned nan X h = absurd h
turned (inf s) X h = absurd h
turned (fin s m e) X h = of-value (fin (not s) m e) X 1 (pow_pos 0) (ap not h.0, h.1)

twice : (x : Float) → neg (neg x) ≡ x
unfolding neg
twice nan = refl
twice (inf s) = rw (not-not s)
twice (fin s m e) = rw (not-not s)

module _ {y : Float} {Y X : ℕ} (hy : Is y Y) (x : Float) (h : Is (neg x) X) where
  pub sub_back : Y + X < 2 ^ 24 → Is (sub binary32 y x) (Y + X)
  unfolding sub
  sub_back l = add-whole hy h l

  pub add_back : X ≤ Y → Y < 2 ^ 24 → Is (add binary32 y x) (Y - X)
  unfolding sub
  add_back l k = rw (twice x) at (sub-whole hy h l k)

-- ---- the payment
inf-less : (p : Float) → Plain p → sub binary32 (inf false) p ≡ inf false
unfolding sub add neg
inf-less nan q = absurd q
inf-less (inf s) q = absurd q
inf-less (fin s m e) q = refl

module _ {p k : Float} {P K : ℕ} (hp : Is p P) (hk : Is k K) (fit : P + K < 2 ^ 24) where
  -- of more than the seat has
  more-pays : (a : Float) (A : ℕ) → Is a A → P + K < A → payment_of a p k ≡ k
  more-pays a A ha l =
      let N = num a * den p - num p * den a in
      let D = den a * den p in
      let s = num-left ha p in
      let t = num-right hp a in
      let b : 0 < D = over-pos a p in
      let c : (P + (K + 1)) * D ≤ A * D = mul-le-mul_right D (omega arith) in
      min-first k _ hk.plain
      (rw (positive-round _ N D (omega arith) (sub-round a p ha.plain hp.plain (omega arith)))
      (not-under binary32 hk N D b (omega arith) (omega arith)))

  -- of less than it has put in
  less-flows : (a : Float) (A : ℕ) → Is a A → A < P → Flow (payment_of a p k) P K
  unfolding min_of
  less-flows a A ha l =
      let x = sub binary32 a p in
      let back : Flow x P K = comes_back (P - A) (turned x (P - A) (sub_negative ha hp l (omega arith))) (omega arith) in
      rw (not-nan k hk.plain) (pick (λ (x : Float). Flow x P K) (lt x k) x k back (goes_in_lem K hk (le_refl K)))

  pub flows : (a : Float) (n : Amount) → Means a n → Flow (payment_of a p k) P K
  flows a endless h = rw (h, inf-less p hp.plain, min-first k (inf false) hk.plain (inf-lt k hk.plain)) (goes_in_lem K hk (le_refl K))
  flows a (chips A) h =
      ⊎_elim (λ l. less-flows a A h.0 l)
      (λ (g : P ≤ A).
      ⊎_elim (λ l. rw (more-pays a A h.0 l) (goes_in_lem K hk (le_refl K)))
      (λ (m : A ≤ P + K). goes_in_lem _ (min-whole hk (sub-whole h.0 hp g (omega arith))) (omega arith))
      (lt_or_le (P + K) A))
      (lt_or_le A P)
