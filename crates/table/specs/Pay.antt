-- Sections 6 to 9: the bet, the payment, the fold, the award and the reward on a record. Definitions only.
use Rattle.std.specs.Prelude.{ℕ, Bool, not, List, [], ◌∷◌, ◌++◌, ltb, get_or, set, Float, Result, Ok, Err}
use Rattle.std.specs.Float.{nan, binary32}
use Rattle.std.specs.Float.Ieee.{add, sub}
use Rattle.refusals.specs.declared.Refusal.{Refusal}
use Rattle.refusals.specs.declared.Refusal.TheVariants.{Added}
use Rattle.refusals.specs.declared.AddedError.TheVariants.{BadSeat, CounterFull}
use Rattle.refusals.specs.Rows.{Row, row, judge, answer}
use Rattle.seats.specs.Bits.{without}
use Rattle.bets.specs.declared.Facing.{Facing}
use Rattle.bets.specs.Bet.{facing, size_rows, pays_for}
use Rattle.rounds.specs.declared.paying.Payer.{Payer}
use Rattle.rounds.specs.declared.paying.Stake.{Stake}
use Rattle.rounds.specs.declared.walking.Reached.{Reached}
use Rattle.rounds.specs.Paying.{payer_of, pay_of, seated, is_full}
use Rattle.rounds.specs.Steps.{stake_in, with_stake}
use Rattle.rounds.specs.Walk.{walk_of}
use Rattle.rounds.specs.With.{with_turn}
use Rattle.table.specs.declared.GameState.{GameState}
use Rattle.table.specs.declared.BetStep.{BetStep}
use Rattle.table.specs.declared.TableStep.{TableStep}
use Rattle.table.specs.Answers.{done, step_by, bad_record, sound_rows, paid, not_paid}
use Rattle.table.specs.With.{with_payment, with_fold, with_award}

-- ---- R7.1: the seat to act, as one that pays
abbrev pub actor : GameState → ℕ
actor t = t.round_data.to_act_idx

abbrev pub stack_of : GameState → Float
stack_of t = get_or t.stacks (actor t) nan

abbrev pub payer_in : GameState → Payer
payer_in t =
    payer_of (stake_in t.round_data) (stack_of t) (get_or t.player_bet (actor t) nan) t.total_pot t.player_active.set t.player_all_in.set
    t.round_data.needs_action.set (actor t)

-- R7.1: the record with what became of it
abbrev pub with_payer : GameState → Payer → GameState
with_payer t p =
    with_payment t p.active p.all_in p.pot (set t.stacks (actor t) p.stack) (set t.player_bet (actor t) p.hand_bet)
    (with_turn (with_stake t.round_data p.stake) p.owing p.seat)

-- R7.9: every step of the seat to act ends with the walk from it, among those who then owe
abbrev pub turn_after : GameState → ℕ → Reached
turn_after t owed = walk_of owed t.round_data.player_bet_len (actor t)

-- it pays x, and the turn passes on
abbrev pub payer_paid : GameState → Float → Bool → Payer
payer_paid t x forced = pay_of (payer_in t) x forced

abbrev pub turn_paid : GameState → Float → Bool → Reached
turn_paid t x forced = turn_after t (payer_paid t x forced).owing

abbrev pub table_paid : GameState → Float → Bool → GameState
table_paid t x forced = with_payer t (seated (payer_paid t x forced) (turn_paid t x forced).seat)

abbrev pub paid_step : GameState → Float → Bool → BetStep
paid_step t x forced = paid x (turn_paid t x forced).passed (table_paid t x forced)

-- ---- R6.10: the verdict: 14 to 17, then 21
abbrev pub faced_by : Payer → Facing
faced_by p = facing p.stake.round_bet p.stack p.stake.bet p.stake.min_raise

abbrev pub pays_of : Payer → Float → Bool → Float
pays_of p a forced = pays_for forced a (faced_by p)

abbrev pub full_row : Payer → Float → Bool → Row
full_row p a forced = row (is_full p.stake (pays_of p a forced) forced) (Added CounterFull)

abbrev pub verdict_rows : Payer → Float → Bool → List Row
verdict_rows p a forced = size_rows forced a (faced_by p) ++ full_row p a forced ∷ []

-- what of a size is left once the counters are looked at
abbrev pub room_for : Stake → Bool → Result Float Refusal → Result Float Refusal
room_for s forced (Err r) = Err r
room_for s forced (Ok x) = answer (Ok x) Err (judge (row (is_full s x forced) (Added CounterFull) ∷ []))

unfoldable pub verdict_of : Payer → Float → Bool → Result Float Refusal
verdict_of p a forced = answer (Ok (pays_of p a forced)) Err (judge (verdict_rows p a forced))

-- ---- R6.10: the bet: 19, and then the verdict
abbrev pub bet_rows : GameState → Float → Bool → List Row
bet_rows t a forced = bad_record t ∷ verdict_rows (payer_in t) a forced

unfoldable pub bet_of : GameState → Float → Bool → BetStep
bet_of t a forced = answer (paid_step t (pays_of (payer_in t) a forced) forced) (λ r. not_paid r t) (judge (bet_rows t a forced))

-- ---- R8.1: the fold: the seat no longer is active nor owes, and the walk follows
abbrev pub folded_step : GameState → TableStep
folded_step t =
    let owed = without t.round_data.needs_action.set (actor t) in
    done (turn_after t owed).passed (with_fold t (without t.player_active.set (actor t)) (with_turn t.round_data owed (turn_after t owed).seat))

unfoldable pub fold_of : GameState → TableStep
fold_of t = step_by (sound_rows t) t (folded_step t)

-- ---- R9.1: the award, to the stack and to the winnings; the pot stays
abbrev pub awarded : GameState → ℕ → Float → GameState
awarded t i x =
    with_award t
    (set t.stacks i (add binary32 (get_or t.stacks i nan) x))
    (set t.player_winnings i (add binary32 (get_or t.player_winnings i nan) x))

-- R9.1, R9.2: 19, then 20
abbrev pub seat_rows : GameState → ℕ → List Row
seat_rows t i = bad_record t ∷ row (not (ltb i t.num_players)) (Added BadSeat) ∷ []

unfoldable pub award_of : GameState → ℕ → Float → TableStep
award_of t i x = step_by (seat_rows t i) t (done 0 (awarded t i x))

-- ---- R9.2: the reward, the stack less the starting stack
unfoldable pub reward_of : GameState → ℕ → Result Float Refusal
reward_of t i = answer (Ok (sub binary32 (get_or t.stacks i nan) (get_or t.starting_stacks i nan))) Err (judge (seat_rows t i))
