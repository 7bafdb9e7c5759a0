-- Amounts that are whole numbers of any size, where `is_whole` asks for 8,000 at most; lists of them, and such a list with one place changed. Assumes nothing.
use Prim.Native.Nat.{ℕ, ◌+◌, ◌/◌, ◌≤◌, ◌<◌}
use native.Mathlib.Nat.{mul-one, div-eq_of_eq-mul_left}
use native.Mathlib.Omega.{arith}
use mathlib.Core.Path.{◌≡◌, sym, ◌∙◌, subst}
use mathlib.Core.Logic.{⊎_elim}
use mathlib.Core.Bool.{true}
use mathlib.Core.List.{List}
use lib.ListN.{length, get_or, set, get_or-eq_default}
use lib.Ieee.{Float, nan}
use lib.Ieee.Positive.{num, den, den_pos}
use Rattle.commons.proofs.Order.{lt_or_le}
use Rattle.commons.specs.Folds.{sum_to}
use Rattle.chips.specs.Whole.{most, all_whole, sum_chips}
use Rattle.chips.proofs.Value.{Is}
use Rattle.commons.proofs.Folds.{sum_same, sum-part}
use Rattle.chips.proofs.Whole.{whole_is, chips_are}
use Rattle.chips.proofs.Lists.{whole-at}
use Rattle.order.proofs.Change.{put_each, put-sum}
use Rattle.order.proofs.Shown.{set-put}

abbrev pub worth : Float → ℕ
worth x = num x / den x

abbrev pub Number : Float → Type 0
Number x = Is x (worth x)

module _ {x : Float} {k : ℕ} (v : Is x k) where
  pub worth-is : worth x ≡ k
  worth-is = div-eq_of_eq-mul_left (den_pos x) (sym (mul-one (num x)) ∙ v.size)

  pub number : Number x
  number = subst (Is x) (sym worth-is) v

-- ---- lists
abbrev pub worth_at : List Float → ℕ → ℕ
worth_at l i = worth (get_or l i nan)

abbrev pub worth_in : List Float → ℕ → ℕ
worth_in l n = sum_to n (worth_at l)

abbrev pub Numbers : List Float → ℕ → Type 0
Numbers l n = (i : ℕ) → i < n → Number (get_or l i nan)

module _ (l : List Float) (n : ℕ) where
  -- of whole amounts
  module _ (w : all_whole l n ≡ true) where
    pub whole_numbers : Numbers l n
    whole_numbers i h = number (whole_is (get_or l i nan) (whole-at l n w i h))

    pub whole-worth : worth_in l n ≡ sum_chips l n
    unfolding sum_chips
    whole-worth = sum_same n (worth_at l) _ (λ i h. worth-is (whole_is (get_or l i nan) (whole-at l n w i h)))

  module _ (w : Numbers l n) where
    -- no more than 8,000 together
    pub worth-chips : worth_in l n ≤ most → sum_chips l n ≡ worth_in l n
    unfolding sum_chips
    worth-chips h = sum_same n _ (worth_at l) (λ i j. chips_are (get_or l i nan) _ (w i j) (omega (arith, sum-part n (worth_at l) i j)))

    -- x stored at the place s
    module _ (s : ℕ) (h : s < n) {x : Float} {k : ℕ} (v : Is x k) where
      inside : s < length l
      inside = ⊎_elim (λ a. a) (λ (b : length l ≤ s). absurd (rw (get_or-eq_default l nan {n = s} b) at (w s h).plain)) (lt_or_le s (length l))

      pub stored-numbers : Numbers (set l s x) n
      stored-numbers = put_each (λ i y. Number y) (set-put (λ y. y) n l s x inside) (number v) (λ i j e. w i j)

      pub stored-worth : worth_in (set l s x) n + worth_at l s ≡ worth_in l n + k
      stored-worth = rw (← worth-is v) (put-sum (set-put worth n l s x inside) h)
