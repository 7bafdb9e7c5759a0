-- The walk's loop: after m moves it stands at the seat m on and has passed no seat that owes. Assumes nothing.
use Prim.Native.Nat.{ℕ, ◌+◌, ◌%◌, ◌<◌, ◌≤◌}
use native.Mathlib.Nat.{mod-eq_of_lt, add-zero}
use native.Mathlib.Omega.{arith}
use mathlib.Core.Path.{◌≡◌, sym, ◌∙◌}
use mathlib.Core.Bool.{true, false}
use Rattle.seats.specs.Bits.{has}
use Rattle.commons.proofs.First.{Passed, passed_on, found_at, none_is}
use Rattle.rounds.specs.declared.walking.Reached.{Reached}
use Rattle.rounds.specs.Walk.{seat_on, owes, distance, reached_from}
use Rattle.rounds.proofs.Walk.{on-on}

pub record Stands (owing n s at m : ℕ) : Type 0 where
  pub place : at ≡ seat_on n s m
  pub bound : m ≤ n
  pub clear : Passed (owes owing n s) 1 (m + 1)

pub begins : (owing n s : ℕ) → s < n → Stands owing n s s 0
begins owing n s h = record { place = sym (rw (add-zero s) (mod-eq_of_lt h)); bound = omega arith; clear = λ j l k. absurd (omega arith) }

moved_on : (n s m at r : ℕ) → at ≡ seat_on n s m → r ≡ (at + 1) % n → r ≡ seat_on n s (m + 1)
moved_on n s m at r p q = q ∙ rw p (on-on n s m 1)

ends_at : (owing n s r d : ℕ) → r ≡ seat_on n s d → distance owing n s ≡ d → ◌≡◌ {A = Reached} (record { seat = r; passed = d }) (reached_from owing n s)
ends_at owing n s r d e q = rw (q, e)

module _ (owing n s at m r : ℕ) (i : Stands owing n s at m) where
  -- the next seat does not owe: on
  pub goes_on : m < n → r ≡ (at + 1) % n → has owing r ≡ false → Stands owing n s r (m + 1)
  goes_on h e q =
      let place = moved_on n s m at r i.place e in
      record { place = place; bound = omega arith; clear = passed_on (owes owing n s) 1 (m + 1) i.clear (rw place at q) }

  -- the next seat owes: there
  pub found : m < n → r ≡ (at + 1) % n → has owing r ≡ true → ◌≡◌ {A = Reached} (record { seat = r; passed = m + 1 }) (reached_from owing n s)
  unfolding distance
  found h e q =
      let place = moved_on n s m at r i.place e in
      ends_at owing n s r (m + 1) place (found_at (owes owing n s) n 1 1 (m + 1) i.clear (omega arith) (omega arith) (rw place at q))

  -- all n looked at: one seat on
  pub none : n ≤ m → r ≡ (s + 1) % n → ◌≡◌ {A = Reached} (record { seat = r; passed = 1 }) (reached_from owing n s)
  unfolding distance
  none h e = ends_at owing n s r 1 e (none_is (owes owing n s) n 1 1 (λ j l k. i.clear j (omega arith) l))
