-- A refused call hands the set back; a refused new set is empty. Assumes nothing.
use Prim.Native.Nat.{ℕ}
use mathlib.Core.Path.{◌≡◌, refl}
use mathlib.Core.Logic.{◌≢◌}
use mathlib.Core.Bool.{false}
use lib.Dec.{leb, ltb}
use Rattle.commons.proofs.Bools.{pick}
use Rattle.seats.specs.declared.PlayerBitSet.{PlayerBitSet}
use Rattle.seats.specs.declared.SetStep.{SetStep}
use Rattle.seats.specs.declared.SeatStep.{SeatStep}
use Rattle.seats.specs.Set.{of_bits, new_of, enable_of, disable_of, get_of, seat_is}
use Rattle.refusals.specs.Rows.{verdict_number}

abbrev pub Back : PlayerBitSet → SetStep → Type 0
Back s r = verdict_number r.answer ≢ 0 → r.set ≡ s

pub new-back : (n : ℕ) → Back (of_bits 0) (new_of n)
unfolding new_of
new-back n = pick (Back (of_bits 0)) (leb n 16) _ _ (λ h. absurd (h refl)) (λ h. refl)

module _ (s : PlayerBitSet) (i : ℕ) where
  pub enable-back : Back s (enable_of s i)
  unfolding enable_of
  enable-back = pick (Back s) (ltb i 16) _ _ (λ h. absurd (h refl)) (λ h. refl)

  pub disable-back : Back s (disable_of s i)
  unfolding disable_of
  disable-back = pick (Back s) (ltb i 16) _ _ (λ h. absurd (h refl)) (λ h. refl)

  -- `get` hands the set back in any case, and where it is refused it says no
  pub get-back : ((get_of s i).set ≡ s) × (verdict_number (get_of s i).answer ≢ 0 → seat_is (get_of s i).answer ≡ false)
  unfolding get_of
  get-back = pick (λ (r : SeatStep). (r.set ≡ s) × (verdict_number r.answer ≢ 0 → seat_is r.answer ≡ false)) (ltb i 16) _ _ (refl, λ h. absurd (h refl)) (refl, λ h. refl)
