-- R3.4 to R3.9: what each call on round data alone gives; 19 comes first, and 21 after it. Definitions only.
use Rattle.std.specs.Prelude.{ℕ, min, Bool, cond, not, List, [], ◌∷◌, get_or, set, length, Float, Result, Ok, Err}
use Rattle.std.specs.Float.{nan}
use Rattle.floats.specs.Helpers.{zerof}
use Rattle.amounts.specs.Amounts.{zeros, of_slice, largest_of, above_of}
use Rattle.refusals.specs.declared.Refusal.{Refusal}
use Rattle.refusals.specs.declared.Refusal.TheVariants.{Added}
use Rattle.refusals.specs.declared.AddedError.TheVariants.{BadRecord, CounterFull}
use Rattle.refusals.specs.Rows.{Row, row, judge, answer}
use Rattle.seats.specs.declared.PlayerBitSet.{PlayerBitSet}
use Rattle.seats.specs.Set.{of_bits}
use Rattle.rounds.specs.declared.RoundData.{RoundData}
use Rattle.rounds.specs.declared.RoundStep.{RoundStep}
use Rattle.rounds.specs.declared.walking.Reached.{Reached}
use Rattle.rounds.specs.declared.paying.Stake.{Stake}
use Rattle.rounds.specs.Paying.{stake_of, staked, is_full}
use Rattle.rounds.specs.Sound.{sound_parts, sound_data}
use Rattle.rounds.specs.Walk.{walk_of}
use Rattle.rounds.specs.With.{data_of, with_paid, with_turn}

-- R3.9: a step that is done, with the number of seats passed to, and one that is refused
abbrev pub done : ℕ → RoundData → RoundStep
done k d = record { answer = Ok k; round_data = d }

abbrev pub refused : Refusal → RoundData → RoundStep
refused r d = record { answer = Err r; round_data = d }

-- ---- R3.4, R3.5: made; zeros where refused
abbrev pub no_data : RoundData
no_data = data_of (of_bits 0) (of_bits 0) zerof zerof zeros 0 0 0 0 0

-- R3.4: new data of n seats, of which these are active and owe
abbrev pub new_data : ℕ → Float → PlayerBitSet → ℕ → RoundData
new_data n m active to = data_of active active m zerof zeros n 0 0 0 to

-- R3.5: from given bets: the bet is the largest, and those above 0 count as bets and as raises
abbrev pub bets_data : Float → PlayerBitSet → ℕ → List Float → RoundData
bets_data m active to bets =
    let n = length bets in
    let list = of_slice bets in
    data_of active active m (largest_of (min n 16) list) list n (above_of (min n 16) list) (above_of (min n 16) list) 0 to

abbrev pub made_if : Bool → RoundData → RoundStep
made_if ok d = cond ok (done 0 d) (refused (Added BadRecord) no_data)

unfoldable pub new_of : ℕ → Float → PlayerBitSet → ℕ → RoundStep
new_of n m active to = made_if (sound_parts n to active.set) (new_data n m active to)

unfoldable pub with_bets_of : Float → PlayerBitSet → ℕ → List Float → RoundStep
with_bets_of m active to bets = made_if (sound_parts (length bets) to active.set) (bets_data m active to bets)

-- ---- R3.6: the walk
abbrev pub walk_from : RoundData → Reached
walk_from d = walk_of d.needs_action.set d.player_bet_len d.to_act_idx

abbrev pub walked : RoundData → RoundData
walked d = with_turn d d.needs_action.set (walk_from d).seat

unfoldable pub advance_of : RoundData → RoundStep
advance_of d = cond (sound_data d) (done (walk_from d).passed (walked d)) (refused (Added BadRecord) d)

-- ---- R3.7: the bet: what the seat to act has put in, and its stake
abbrev pub put_in : RoundData → Float
put_in d = get_or d.player_bet d.to_act_idx nan

abbrev pub stake_in : RoundData → Stake
stake_in d = stake_of (put_in d) d.bet d.min_raise d.total_bet_count d.total_raise_count d.forced_bet_count

abbrev pub with_stake : RoundData → Stake → RoundData
with_stake d s = with_paid d s.min_raise s.bet (set d.player_bet d.to_act_idx s.round_bet) s.total s.raises s.forced

abbrev pub pays_of : RoundData → Float → Bool → RoundData
pays_of d x forced = with_stake d (staked (stake_in d) x forced)

abbrev pub bet_rows : RoundData → Float → Bool → List Row
bet_rows d x forced = row (not (sound_data d)) (Added BadRecord) ∷ row (is_full (stake_in d) x forced) (Added CounterFull) ∷ []

unfoldable pub bet_of : RoundData → Float → Bool → RoundStep
bet_of d x forced = answer (done 0 (pays_of d x forced)) (λ r. refused r d) (judge (bet_rows d x forced))

-- ---- R3.8: the amount asked
unfoldable pub current_bet : RoundData → Result Float Refusal
current_bet d = cond (sound_data d) (Ok (put_in d)) (Err (Added BadRecord))

-- ---- R3.9: what an answer gives: 0 where refused
abbrev pub passed_of : Result ℕ Refusal → ℕ
passed_of (Ok k) = k
passed_of (Err r) = 0

abbrev pub amount_of : Result Float Refusal → Float
amount_of (Ok x) = x
amount_of (Err r) = zerof
