-- Winnings that are all 0: each of the first n is 0 in value, and none of them is missing, since past a list's end stands a NaN, which is not 0.
-- Assumes nothing.
use Rattle.std.proofs.Common.{◌≡◌, ℕ, ◌*◌, ◌<◌, ◌≤◌, Bool, true, false, ◌&&◌, eqb, List, length, get_or, sym, refl, ◌∙◌, ⊎_elim, zero-mul, mul-one, arith, pow_pos, eqb-true}
use lib.ListN.{get_or-eq_default}
use lib.Ieee.{Float, nan, inf, fin, up, down, eq, ne}
use lib.Ieee.Fits.{up_pos}
use Rattle.floats.specs.Helpers.{zerof}
use Rattle.commons.proofs.Bools.{either, differ, and_both}
use Rattle.commons.proofs.Order.{lt_or_le}
use Rattle.chips.proofs.Add.{no_factor}
use Rattle.chips.proofs.Value.{Is}
use Rattle.commons.proofs.Folds.{any_some}
use Rattle.settlement.specs.Settlement.{any_won}

-- ---- an amount that equals 0
no_size : (m u d : ℕ) (b : Bool) → (eqb (m * u * 1) (0 * 1 * d) && b) ≡ true → m * u ≡ 0
no_size m u d b q = sym (mul-one (m * u)) ∙ eqb-true (m * u * 1) (0 * 1 * d) (and_both (eqb (m * u * 1) (0 * 1 * d)) b q).0 ∙ zero-mul d

zero_is : (x : Float) → eq x zerof ≡ true → Is x 0
unfolding eq
zero_is nan e = absurd (differ false e refl)
zero_is (inf true) e = absurd (differ false e refl)
zero_is (inf false) e = absurd (differ false e refl)
zero_is (fin s m e) q =
    let z : m * up e ≡ 0 = no_size m (up e) (down e) _ q in
    record { plain = λ t. no_factor m (up e) (up_pos e) z; over = pow_pos 0; size = mul-one (m * up e) ∙ z ∙ sym (zero-mul (down e)) }

-- ---- lists
pub won-at : (l : List Float) (n i : ℕ) → i < n → ne (get_or l i nan) zerof ≡ true → any_won l n ≡ true
unfolding any_won
won-at l n i h e = any_some n (λ i. ne (get_or l i nan) zerof) i h e

none-won : ne nan zerof ≡ true
unfolding ne eq
none-won = refl

pub too_long : (l : List Float) (n : ℕ) → length l < n → any_won l n ≡ true
too_long l n h = won-at l n (length l) h (rw (get_or-eq_default l nan {n = length l} (omega arith)) none-won)

module _ (l : List Float) (n : ℕ) (none : any_won l n ≡ false) where
  pub long-enough : n ≤ length l
  long-enough = ⊎_elim (λ s. absurd (differ (any_won l n) (too_long l n s) none)) (λ g. g) (lt_or_le (length l) n)

  pub zero-at : (i : ℕ) → i < n → Is (get_or l i nan) 0
  unfolding ne
  zero-at i h =
      ⊎_elim
      (λ t. zero_is (get_or l i nan) t)
      (λ f. absurd (differ (any_won l n) (won-at l n i h (rw f)) none))
      (either (eq (get_or l i nan) zerof))
