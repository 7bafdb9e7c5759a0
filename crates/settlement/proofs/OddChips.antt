-- Of the winners of a layer, those who get an odd chip are the first so many, going round from the seat after the dealer. Assumes nothing.
use Rattle.std.proofs.Common.{◌≡◌, ℕ, zero, suc, ◌+◌, ◌-◌, ◌/◌, ◌%◌, ◌<◌, ◌≤◌, true, cond, ltb, List, sym, ap, ◌∙◌, ⊎_elim, add-zero, add-suc, mod-eq_of_lt, arith, le-leb}
use native.Mathlib.Nat.{add-mod_right, mod-eq-sub-mod}
use borrow.Author.Tests.{lt-leb}
use Rattle.std.specs.Prelude.{Ok}
use Rattle.commons.proofs.Order.{lt_or_le}
use Rattle.commons.specs.Folds.{sum_to}
use Rattle.commons.proofs.Folds.{sum_same}
use Rattle.seats.specs.Bits.{has, count_to}
use Rattle.rounds.specs.Walk.{seat_on}
use Rattle.rounds.proofs.Walk.{on-on, clockwise, clockwise-low, clockwise-high, seat-at}
use Rattle.table.specs.declared.GameState.{GameState}
use Rattle.table.proofs.Sound.{Sound, sound}
use Rattle.layers.specs.declared.Hand.{Hand}
use Rattle.layers.specs.Sharing.{ahead}
use Rattle.layers.specs.Settlement.{holds, wins, winners, share}
use Rattle.layers.proofs.Seats.{count-suc, count-up, count_most}
use Rattle.layers.proofs.Sharing.{share-by}
use Rattle.layers.proofs.Winning.{has-winners, wins_in}
use Rattle.settlement.specs.Hand.{first_of, hand_of}
use Rattle.settlement.specs.Settlement.{settled_of}
use Rattle.settlement.proofs.Accepted.{accepted}
use Rattle.settlement.proofs.Whole.{first-is, first_in}

-- ---- a set met seat by seat, going round from the seat `first`
module _ (n first s : ℕ) (l : first < n) where
  -- whether the seat k places on is one of the set
  abbrev here : ℕ → ℕ
  here k = cond (has s (seat_on n first k)) 1 0

  -- up to the end of the table, and past it
  met-low : (d : ℕ) → first + d ≤ n → sum_to d here ≡ count_to (first + d) s - count_to first s
  unfolding sum_to
  met-low zero h = rw add-zero (omega arith)
  met-low (suc d) h =
      let m : (first + d) % n ≡ first + d = mod-eq_of_lt (omega arith) in
      rw (add-suc, m) (omega (arith, met-low d (omega arith), count-suc (first + d) s, count-up first d s))

  met-high : (e : ℕ) → e ≤ first → sum_to (n - first + e) here ≡ count_to n s - count_to first s + count_to e s
  unfolding sum_to count_to
  met-high zero h =
      let b : first + (n - first) ≡ n = omega arith in
      let a : sum_to (n - first) here ≡ count_to n s - count_to first s = rw b at (met-low (n - first) (omega arith)) in
      let z : n - first + 0 ≡ n - first = add-zero (n - first) in
      rw z (omega arith)
  met-high (suc e) h =
      let b : first + (n - first + e) ≡ e + n = omega arith in
      let m : (first + (n - first + e)) % n ≡ e = rw b (add-mod_right e n ∙ mod-eq_of_lt (omega arith)) in
      rw (add-suc, m) (omega (arith, met-high e (omega arith)))

  -- one round meets them all, and on the way to a seat those are met that come ahead of it
  pub all-met : sum_to n here ≡ count_to n s
  all-met =
      let e : n - first + first ≡ n = omega arith in
      let a : sum_to n here ≡ count_to n s - count_to first s + count_to first s = rw e at (met-high first (omega arith)) in
      omega (arith, count_most first n s (omega arith))

  pub ahead-met : (d : ℕ) → d < n → sum_to d here ≡ ahead n first s (seat_on n first d)
  unfolding ahead
  ahead-met d h =
      ⊎_elim
      (λ b.
      let m : (first + d) % n ≡ first + d = mod-eq_of_lt b in
      rw (m, le-leb first (first + d) (omega arith)) (met-low d (omega arith)))
      (λ g.
      let k : first + d - n < first = omega arith in
      let m : (first + d) % n ≡ first + d - n = mod-eq-sub-mod g ∙ mod-eq_of_lt (omega arith) in
      let q : n - first + (first + d - n) ≡ d = omega arith in
      let a : sum_to d here ≡ count_to n s - count_to first s + count_to (first + d - n) s = rw q at (met-high (first + d - n) (omega arith)) in
      rw (m, lt-leb first (first + d - n) k) a)
      (lt_or_le (first + d) n)

module _ (t : GameState) (ranks : List ℕ) where
  abbrev n : ℕ
  n = t.num_players

  abbrev hand : Hand
  hand = hand_of t ranks

  abbrev dealer : ℕ
  dealer = t.dealer_idx

  -- the first seat after the dealer
  abbrev left : ℕ
  left = seat_on n dealer 1

  -- how many winners of the layer under u sit on the first d seats after the dealer
  abbrev pub met : ℕ → ℕ → ℕ
  met u d = sum_to d (λ k. cond (wins hand u (seat_on n dealer (1 + k))) 1 0)

  -- how many of them come before seat i, going round from the seat after the dealer: the dealer comes last
  abbrev pub earlier : ℕ → ℕ → ℕ
  earlier u i = met u (clockwise n dealer i - 1)

  -- a winner gets an equal part, and an odd chip exactly if fewer winners come before it than there are odd chips
  pub odd-chips : (settled_of t ranks).answer ≡ Ok tt → (u i : ℕ) → wins hand u i ≡ true
      → share hand u i ≡ holds hand u / met u n + cond (ltb (earlier u i) (holds hand u % met u n)) 1 0
  unfolding share
  odd-chips paid u i w =
      let s : Sound t = sound t (accepted t ranks paid).sounds in
      let f : first_of t ≡ left = first-is t s in
      let l : left < n = rw f at (first_in t s) in
      let k : i < n = wins_in hand u i w in
      let c : ℕ = clockwise n dealer i in
      let low : 1 ≤ c = clockwise-low n dealer s.deals i in
      let high : c ≤ n = clockwise-high n dealer s.deals i k in
      let one : 1 + (c - 1) ≡ c = omega arith in
      let there : seat_on n left (c - 1) ≡ i = on-on n dealer 1 (c - 1) ∙ ap (seat_on n dealer) one ∙ seat-at n dealer i s.deals k in
      let same : (d : ℕ) → sum_to d (here n left (winners hand u) l) ≡ met u d =
      λ d. sum_same d (here n left (winners hand u) l) _ (λ k b. rw (on-on n dealer 1 k, has-winners hand s.most u (seat_on n dealer (1 + k)))) in
      let all : count_to n (winners hand u) ≡ met u n = sym (all-met n left (winners hand u) l) ∙ same n in
      let before : ahead n (first_of t) (winners hand u) i ≡ earlier u i =
      (λ j. ahead n (f j) (winners hand u) (sym there j)) ∙ sym (ahead-met n left (winners hand u) l (c - 1) (omega arith)) ∙ same (c - 1) in
      share-by n (first_of t) (winners hand u) (holds hand u) i (met u n) (earlier u i) (has-winners hand s.most u i ∙ w) all before
