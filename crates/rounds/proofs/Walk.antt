-- What the walk's definition comes to, of a seat s at a table of n: it passes to 1 to n seats, the clockwise distance, n where it comes back;
-- it reaches a seat that owes if any does, and passes over none. `table` and `order` cite these. Assumes nothing.
use Prim.Native.Nat.{ℕ, ◌+◌, ◌-◌, ◌%◌, ◌<◌, ◌≤◌}
use native.Mathlib.Nat.{mod-eq_of_lt, mod-lt, add-mod_right, mod-add-mod, add_assoc}
use native.Mathlib.Omega.{arith}
use mathlib.Core.Path.{◌≡◌, refl, sym, ap, ◌∙◌}
use mathlib.Core.Bool.{Bool, true, false, cond, ◌&&◌}
use mathlib.Core.Logic.{⊎_elim, ◌⊎◌}
use lib.Dec.{ltb, leb}
use Rattle.rounds.specs.declared.walking.Reached.{Reached}
use borrow.Author.Tests.{lt-ltb, le-ltb, le-leb, ltb-true, leb-true}
use Rattle.seats.specs.Bits.{has}
use Rattle.commons.proofs.First.{Found, Nowhere, first-cases}
use Rattle.commons.proofs.Order.{lt_or_le}
use Rattle.commons.proofs.Bools.{differ, and_both}
use Rattle.rounds.specs.Walk.{seat_on, owes, distance, reached_from, walk_of}

-- a places on and then b are a + b places on
pub on-on : (n s a b : ℕ) → seat_on n (seat_on n s a) b ≡ seat_on n s (a + b)
on-on n s a b = mod-add-mod (s + a) n b ∙ ap (λ (k : ℕ). k % n) (add_assoc s a b)

-- from s clockwise to t: n where they are the same
abbrev pub clockwise : ℕ → ℕ → ℕ → ℕ
clockwise n s t = cond (ltb s t) (t - s) (n - s + t)

-- every seat lies at its clockwise distance, and at no other from 1 to n
pub seat-at : (n s t : ℕ) → s < n → t < n → seat_on n s (clockwise n s t) ≡ t
seat-at n s t h k = ⊎_elim
    (λ l. rw (lt-ltb s t l) (let e : s + (t - s) ≡ t = omega arith in rw e (mod-eq_of_lt k)))
    (λ l. rw (le-ltb s t l) (let e : s + (n - s + t) ≡ t + n = omega arith in rw e (add-mod_right t n ∙ mod-eq_of_lt k)))
    (lt_or_le s t)

-- one time round more leads to the same seat
pub once-round : (n k : ℕ) → n ≤ k → k < n + n → k % n ≡ k - n
once-round n k l h = let e : k ≡ (k - n) + n = omega arith in ap (λ (i : ℕ). i % n) e ∙ add-mod_right (k - n) n ∙ mod-eq_of_lt (omega arith)

pub clockwise-of : (n s d : ℕ) → s < n → 1 ≤ d → d ≤ n → clockwise n s (seat_on n s d) ≡ d
clockwise-of n s d h l k = ⊎_elim
    (λ b.
    let m : (s + d) % n ≡ s + d = mod-eq_of_lt b in
    let t : ltb s (s + d) ≡ true = lt-ltb s (s + d) (omega arith) in
    let g : s + d - s ≡ d = omega arith in
    rw (m, t) g)
    (λ b.
    let q : (s + d) % n ≡ s + d - n = once-round n (s + d) b (omega arith) in
    let t : ltb s (s + d - n) ≡ false = le-ltb s (s + d - n) (omega arith) in
    let g : n - s + (s + d - n) ≡ d = omega arith in
    rw (q, t) g)
    (lt_or_le (s + d) n)

module _ (n s : ℕ) (h : s < n) where
  pub clockwise-low : (t : ℕ) → 1 ≤ clockwise n s t
  clockwise-low t = ⊎_elim (λ l. rw (lt-ltb s t l) (omega arith)) (λ l. rw (le-ltb s t l) (omega arith)) (lt_or_le s t)

  pub clockwise-high : (t : ℕ) → t < n → clockwise n s t ≤ n
  clockwise-high t k = ⊎_elim (λ l. rw (lt-ltb s t l) (omega arith)) (λ l. rw (le-ltb s t l) (omega arith)) (lt_or_le s t)

module _ (owing n s : ℕ) (h : s < n) where
  cases : Found (owes owing n s) n 1 (distance owing n s) ⊎ ((distance owing n s ≡ 1) × Nowhere (owes owing n s) n 1)
  unfolding distance
  cases = first-cases (owes owing n s) n 1 1

  -- the count is 1 to n
  pub distance-low : 1 ≤ distance owing n s
  distance-low = ⊎_elim (λ c. c.from) (λ c. omega (arith, c.0)) cases

  pub distance_high : distance owing n s ≤ n
  distance_high = ⊎_elim (λ c. omega (arith, c.upto)) (λ c. omega (arith, c.0)) cases

  -- it is the distance moved clockwise, n where the walk comes back to its start
  pub distance-clockwise : clockwise n s (seat_on n s (distance owing n s)) ≡ distance owing n s
  distance-clockwise = clockwise-of n s (distance owing n s) h distance-low distance_high

  pub comes_back : seat_on n s (distance owing n s) ≡ s → distance owing n s ≡ n
  comes_back e =
      let here : clockwise n s s ≡ n = rw (le-ltb s s (omega arith)) (omega arith) in
      sym distance-clockwise ∙ ap (clockwise n s) e ∙ here

  -- no owing seat is passed over
  pub passes_none : (j : ℕ) → 1 ≤ j → j < distance owing n s → owes owing n s j ≡ false
  passes_none j l k = ⊎_elim (λ c. c.before j l k) (λ c. absurd (omega (arith, c.0))) cases

  -- the seat reached owes, if any seat of the table does
  pub reaches : (t : ℕ) → t < n → has owing t ≡ true → has owing (seat_on n s (distance owing n s)) ≡ true
  reaches t k q = ⊎_elim
      (λ c. c.holds)
      (λ c.
      let away : has owing t ≡ false =
      rw (← seat-at n s t h k) (c.1 (clockwise n s t) (clockwise-low n s h t) (omega (arith, clockwise-high n s h t k))) in
      absurd (differ (has owing t) q away))
      cases

  -- what the calls give
  pub walk_inside : n ≤ 16 → walk_of owing n s ≡ reached_from owing n s
  unfolding walk_of
  walk_inside k = rw (lt-ltb s n h, le-leb n 16 k)

  pub walk-seated : n ≤ 16 → (walk_of owing n s).seat < n
  walk-seated k = rw (walk_inside k) (mod-lt (s + distance owing n s) (omega arith))

-- of any input, the walk passes to at most 16 seats
few : (t : Bool) (n s d : ℕ) → (t ≡ true → d ≤ 16) → (cond {A = Reached} t (record { seat = s; passed = d }) (record { seat = n; passed = 0 })).passed ≤ 16
few true n s d h = h refl
few false n s d h = omega arith

pub walk-few : (owing n s : ℕ) → (walk_of owing n s).passed ≤ 16
unfolding walk_of
walk-few owing n s = few (ltb s n && leb n 16) s (seat_on n s (distance owing n s)) (distance owing n s)
    (λ e. let t = and_both (ltb s n) (leb n 16) e in omega (arith, distance_high owing n s (ltb-true s n t.0), leb-true n 16 t.1))

pub walked-few : (w : Reached) (owing n s : ℕ) → w ≡ walk_of owing n s → w.passed ≤ 16
walked-few w owing n s e = rw e (walk-few owing n s)
