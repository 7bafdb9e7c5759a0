-- A refused call on round data hands it back; refused data that was to be made is zeros. Assumes nothing.
use Rattle.std.specs.Prelude.{Result}
use Rattle.refusals.specs.declared.Refusal.{Refusal}
use Rattle.refusals.specs.Rows.{verdict_number}
use Prim.Native.Nat.{ℕ}
use mathlib.Core.Path.{◌≡◌, refl}
use mathlib.Core.Logic.{◌≢◌}
use mathlib.Core.Bool.{Bool}
use mathlib.Core.List.{List}
use lib.ListN.{length}
use lib.Ieee.{Float}
use Rattle.commons.proofs.Bools.{pick}
use Rattle.refusals.specs.Rows.{judge}
use Rattle.refusals.proofs.Rows.{answer-of}
use Rattle.floats.specs.Helpers.{zerof}
use Rattle.seats.specs.declared.PlayerBitSet.{PlayerBitSet}
use Rattle.rounds.specs.declared.RoundData.{RoundData}
use Rattle.rounds.specs.declared.RoundStep.{RoundStep}
use Rattle.rounds.specs.Sound.{sound_parts, sound_data}
use Rattle.rounds.specs.Steps.{no_data, new_of, with_bets_of, advance_of, bet_rows, bet_of, current_bet, amount_of}

abbrev pub Back : RoundData → RoundStep → Type 0
Back d r = verdict_number r.answer ≢ 0 → r.round_data ≡ d

pub new-back : (n : ℕ) (m : Float) (active : PlayerBitSet) (to : ℕ) → Back no_data (new_of n m active to)
unfolding new_of
new-back n m active to = pick (Back no_data) (sound_parts n to active.set) _ _ (λ h. absurd (h refl)) (λ h. refl)

pub with-bets-back : (m : Float) (active : PlayerBitSet) (to : ℕ) (bets : List Float) → Back no_data (with_bets_of m active to bets)
unfolding with_bets_of
with-bets-back m active to bets = pick (Back no_data) (sound_parts (length bets) to active.set) _ _ (λ h. absurd (h refl)) (λ h. refl)

module _ (d : RoundData) where
  pub advance-back : Back d (advance_of d)
  unfolding advance_of
  advance-back = pick (Back d) (sound_data d) _ _ (λ h. absurd (h refl)) (λ h. refl)

  pub bet-back : (x : Float) (forced : Bool) → Back d (bet_of d x forced)
  unfolding bet_of
  bet-back x forced = answer-of _ _ (Back d) (judge (bet_rows d x forced)) (λ e h. absurd (h refl)) (λ r h. refl)

  -- an amount that is refused is 0
  pub amount-back : verdict_number (current_bet d) ≢ 0 → amount_of (current_bet d) ≡ zerof
  unfolding current_bet
  amount-back = pick (λ (a : (Result Float Refusal)). verdict_number a ≢ 0 → amount_of a ≡ zerof) (sound_data d) _ _ (λ h. absurd (h refl)) (λ h. refl)
