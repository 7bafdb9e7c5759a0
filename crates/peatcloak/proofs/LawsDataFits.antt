-- Round data that a call makes, or that an accepted step leaves of what stood in the lists, fits its places. Assumes nothing.
use Rattle.refusals.specs.Rows.{verdict_number}
use Prim.Native.Nat.{ℕ, zero, suc, ◌<◌, ◌≤◌, ◌^◌, min}
use native.Mathlib.Nat.{mod-lt, lt_of_lt_of_le}
use native.Mathlib.Omega.{arith}
use mathlib.Core.Path.{◌≡◌, refl, ◌∙◌}
use mathlib.Core.Bool.{Bool, true, false, ◌&&◌}
use mathlib.Core.List.{List}
use lib.Dec.{ltb}
use lib.ListN.{get_or, length, length-set}
use lib.Ieee.{Float, nan, lt}
use lib.Pow.{pow_mono}
use borrow.Author.Tests.{ltb-true}
use Rattle.commons.proofs.Bools.{and_both, chosen-le, tested, turned}
use Rattle.commons.proofs.Filled.{filled-long}
use Rattle.floats.specs.Helpers.{zerof}
use Rattle.amounts.specs.Amounts.{zeros, of_slice, above_of}
use Rattle.refusals.specs.Rows.{judge}
use Rattle.refusals.proofs.Numbers.{numbered}
use Rattle.refusals.proofs.Rows.{answer-of, fails-at}
use Rattle.seats.specs.Set.{of_bits}
use Rattle.rounds.specs.declared.RoundStep.{RoundStep}
use Rattle.rounds.specs.Paying.{is_raise, up_if, new_round_bet}
use Rattle.rounds.specs.Sound.{sound_parts, sound_data}
use Rattle.rounds.specs.Steps.{new_of, with_bets_of, advance_of, bet_of, bet_rows, stake_in}
use Rattle.rounds.proofs.Sound.{sound}
use Rattle.rounds.proofs.Walk.{walk-seated}
use Rattle.layout.specs.Places.{ROUND_BETS}
use Rattle.layout.specs.Standing.{data_at}
use Rattle.layout.proofs.Sixteen.{sixteen_long}
use Rattle.peatcloak.proofs.LawsDataBack.{Fits}

-- where a step is accepted
abbrev pub StepFits : RoundStep → Type 0
StepFits s = verdict_number s.answer ≡ 0 → Fits s.round_data

-- ---- new data
low-set : (n set : ℕ) → n ≤ 16 → set < 2 ^ n → set < 65536
low-set n set h k = lt_of_lt_of_le k (pow_mono h)

above_most : (k : ℕ) (l : List Float) → above_of k l ≤ k
unfolding above_of
above_most zero l = omega arith
above_most (suc k) l = omega (arith, above_most k l, chosen-le (lt zerof (get_or l k nan)) 1)

module _ (m : Float) (active to : ℕ) where
  pub new-fits : (n : ℕ) → StepFits (new_of n m (of_bits active) to)
  unfolding new_of
  new-fits n =
      tested StepFits (sound_parts n to active) _ _
      (λ h z.
      let s = sound n to active h in
      let low = low-set n active s.few s.owing in
      record { start = low; owing = low; seats = s.few; turn = s.place; total = omega arith; raises = omega arith; forced = omega arith; bets = refl })
      (λ h z. absurd (omega (arith, z)))

  pub with-bets-fits : (bets : List Float) → StepFits (with_bets_of m (of_bits active) to bets)
  unfolding with_bets_of
  with-bets-fits bets =
      tested StepFits (sound_parts (length bets) to active) _ _
      (λ h z.
      let s = sound (length bets) to active h in
      let low = low-set (length bets) active s.few s.owing in
      let count : above_of (min (length bets) 16) (of_slice bets) < 256 = omega (arith, above_most (min (length bets) 16) (of_slice bets)) in
      record { start = low; owing = low; seats = s.few; turn = s.place; total = count; raises = count; forced = omega arith; bets = filled-long zeros (λ i. get_or bets i nan) (min (length bets) 16) })
      (λ h z. absurd (omega (arith, z)))

-- ---- a step of what stands in the lists
-- a counter stays below 256
up-low : (b : Bool) (c : ℕ) → c < 256 → up_if b c < 256
up-low b c h = by (b && ltb c 255) refl
  where
    by : (t : Bool) → b && ltb c 255 ≡ t → up_if b c < 256
    by true e = rw e (omega (arith, ltb-true c 255 (and_both b (ltb c 255) e).1))
    by false e = rw e h

module _ (fs : List Float) (ns : List ℕ) where
  pub advance-fits : StepFits (advance_of (data_at fs ns))
  unfolding advance_of
  advance-fits =
      tested StepFits (sound_data (data_at fs ns)) _ _
      (λ h z.
      let s = sound _ _ _ h in
      record {
        start = mod-lt _ (omega arith);
        owing = mod-lt _ (omega arith);
        seats = s.few;
        turn = lt_of_lt_of_le (walk-seated _ _ _ s.acts s.few) s.few;
        total = mod-lt _ (omega arith);
        raises = mod-lt _ (omega arith);
        forced = mod-lt _ (omega arith);
        bets = sixteen_long fs ROUND_BETS;
      })
      (λ h z. absurd (omega (arith, z)))

  pub bet-fits : (x : Float) (forced : Bool) → StepFits (bet_of (data_at fs ns) x forced)
  unfolding bet_of
  bet-fits x forced =
      answer-of _ _ StepFits (judge (bet_rows (data_at fs ns) x forced))
      (λ e z.
      let d = data_at fs ns in
      let s = sound _ _ _ (turned (sound_data d) false (fails-at (bet_rows d x forced) e 0)) in
      let stake = stake_in d in
      record {
        start = mod-lt _ (omega arith);
        owing = mod-lt _ (omega arith);
        seats = s.few;
        turn = s.place;
        total = up-low true stake.total (mod-lt _ (omega arith));
        raises = up-low (is_raise forced stake.bet (new_round_bet stake x)) stake.raises (mod-lt _ (omega arith));
        forced = up-low forced stake.forced (mod-lt _ (omega arith));
        bets = length-set d.player_bet d.to_act_idx (new_round_bet stake x) ∙ sixteen_long fs ROUND_BETS;
      })
      (λ r z. absurd (numbered r z))
