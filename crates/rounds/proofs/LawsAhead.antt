-- The walk by bits, once over n: the owing seats of a table, turned, lie as they are met, and the first of them is the walk's distance.
-- Assumes nothing.
use Prim.Native.Nat.{ℕ, ◌+◌, ◌-◌, ◌*◌, ◌/◌, ◌%◌, ◌^◌, ◌<◌, ◌≤◌}
use native.Mathlib.Nat.{mod-eq_of_lt, mod-lt}
use native.Mathlib.Omega.{arith}
use mathlib.Core.Path.{◌≡◌, sym, ap, ◌∙◌}
use mathlib.Core.Bool.{Bool, true, false, ◌||◌, or-false}
use mathlib.Core.Logic.{⊎_elim, ◌⊎◌}
use lib.Bits.{bit_or}
use lib.Pow.{pow_pos, shl_exact}
use Rattle.commons.proofs.First.{Found, Nowhere, first-cases, found_at, none_is}
use Rattle.commons.proofs.Order.{lt_or_le}
use Rattle.seats.specs.Bits.{has, next_from}
use Rattle.seats.proofs.Laws.{has_or, none_above}
use Rattle.seats.proofs.LawsLowest.{has-shifted, has_rest, has-raised, has-below}
use Rattle.rounds.specs.declared.walking.Reached.{Reached}
use Rattle.rounds.specs.Walk.{owes, distance, reached_from, Ahead}
use Rattle.rounds.proofs.Walk.{once-round, distance_high}

module _ (owing n s : ℕ) (h : s < n) (most : n ≤ 16) where
  -- ---- the seats above s, then those up to it: what the code's two shifts give at place j
  abbrev all : ℕ
  all = owing % 2 ^ n

  small : all < 2 ^ n
  small = mod-lt owing (pow_pos n)

  of-table : (j : ℕ) → j < n → has all j ≡ has owing j
  of-table j k = has_rest owing n j k

  turned-at : (j : ℕ) → j < n → (has all (s + 1 + j) || has (all * 2 ^ (n - (s + 1))) j) ≡ has owing ((s + 1 + j) % n)
  turned-at j k = ⊎_elim
      (λ l. rw (has-below all (n - (s + 1)) j (omega arith), of-table (s + 1 + j) l, mod-eq_of_lt l, or-false (has owing (s + 1 + j))))
      (λ l.
      let place : (n - (s + 1)) + (s + 1 + j - n) ≡ j = omega arith in
      let once : (s + 1 + j) % n ≡ s + 1 + j - n = once-round n (s + 1 + j) l (omega arith) in
      let far : has (all * 2 ^ (n - (s + 1))) j ≡ has owing (s + 1 + j - n) =
      ap (has (all * 2 ^ (n - (s + 1)))) (sym place) ∙ has-raised all (n - (s + 1)) (s + 1 + j - n) ∙ of-table (s + 1 + j - n) (omega arith) in
      rw (none_above all n (s + 1 + j) small l, far, once))
      (lt_or_le (s + 1 + j) n)

  pub lies_ahead : Ahead owing n s (bit_or (all / 2 ^ (s + 1)) (all * 2 ^ (n - (s + 1)) % 2 ^ 32) % 2 ^ 16)
  lies_ahead j k =
      let up : all * 2 ^ (n - (s + 1)) % 2 ^ 32 ≡ all * 2 ^ (n - (s + 1)) = shl_exact n (n - (s + 1)) 32 small (omega arith) in
      let place : s + 1 + j ≡ s + (j + 1) = omega arith in
      has_rest (bit_or (all / 2 ^ (s + 1)) (all * 2 ^ (n - (s + 1)) % 2 ^ 32)) 16 j (omega arith)
      ∙ ap (λ (w : ℕ). has (bit_or (all / 2 ^ (s + 1)) w) j) up
      ∙ has_or (all / 2 ^ (s + 1)) (all * 2 ^ (n - (s + 1))) j
      ∙ ap (λ (b : Bool). b || has (all * 2 ^ (n - (s + 1))) j) (has-shifted all (s + 1) j)
      ∙ turned-at j k
      ∙ ap (λ (i : ℕ). has owing (i % n)) place

  -- ---- the first place of such a set
  module _ (set z : ℕ) (ahead : Ahead owing n s set) (first : z ≡ next_from set 0) where
    cases : Found (has set) 16 0 z ⊎ ((z ≡ 16) × Nowhere (has set) 16 0)
    unfolding next_from
    cases = rw first (first-cases (has set) 16 0 16)

    clear : (j : ℕ) → j < n → j < z → has set j ≡ false
    clear j l b = ⊎_elim (λ c. c.before j (omega arith) b) (λ c. c.1 j (omega arith) (omega arith)) cases

    met : (j : ℕ) → 1 ≤ j → j ≤ n → j ≤ z → owes owing n s j ≡ false
    met j l k b = let place : (j - 1) + 1 ≡ j = omega arith in ap (owes owing n s) (sym place) ∙ sym (ahead (j - 1) (omega arith)) ∙ clear (j - 1) (omega arith) (omega arith)

    there : z < n → has set z ≡ true
    there b = ⊎_elim (λ c. c.holds) (λ c. absurd (omega (arith, c.0))) cases

    pub first-owes : z < n → distance owing n s ≡ z + 1
    unfolding distance
    first-owes b = found_at (owes owing n s) n 1 1 (z + 1) (λ j k l. met j l (omega arith) (omega arith)) (omega arith) (omega arith) (sym (ahead z b) ∙ there b)

    pub none_owes : n ≤ z → distance owing n s ≡ 1
    unfolding distance
    none_owes b = none_is (owes owing n s) n 1 1 (λ j l k. met j l (omega arith) (omega arith))

  -- ---- the seat so many places on; the next one, where it owes
  pub next-owes : (r : ℕ) → r ≡ (s + 1) % n → has owing r ≡ true → ◌≡◌ {A = Reached} (record { seat = r; passed = 1 }) (reached_from owing n s)
  unfolding distance
  next-owes r e q =
      let one : distance owing n s ≡ 1 = found_at (owes owing n s) n 1 1 1 (λ j l k. absurd (omega arith)) (omega arith) (omega arith) (rw e at q) in
      rw (one, e)

  module _ (d : ℕ) (e : d ≡ distance owing n s) where
    pub seat-below : s + d < n → ◌≡◌ {A = Reached} (record { seat = s + d; passed = d }) (reached_from owing n s)
    seat-below b = let m : (s + d) % n ≡ s + d = mod-eq_of_lt b in rw (← e, m)

    pub seat-round : n ≤ s + d → ◌≡◌ {A = Reached} (record { seat = s + d - n; passed = d }) (reached_from owing n s)
    seat-round b = let m : (s + d) % n ≡ s + d - n = once-round n (s + d) b (omega (arith, e, distance_high owing n s h)) in rw (← e, m)
