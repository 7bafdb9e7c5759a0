-- R15.19: what each call on the round data in a host's lists, fs and ns, comes to: a step of it, which is laid where it is accepted. Definitions only.
use Rattle.refusals.specs.Rows.{verdict_number}
use Rattle.std.specs.Prelude.{ℕ, ◌≡◌, Bool, cond, ◌&&◌, List, [], ◌∷◌, leb, eqb, Float}
use Rattle.std.specs.Float.{nan}
use Rattle.commons.specs.Filled.{copied}
use Rattle.refusals.specs.declared.Refusal.TheVariants.{Added}
use Rattle.refusals.specs.declared.AddedError.TheVariants.{BadRecord}
use Rattle.seats.specs.Bits.{count_to}
use Rattle.seats.specs.Set.{of_bits}
use Rattle.rounds.specs.declared.RoundData.{RoundData}
use Rattle.rounds.specs.declared.RoundStep.{RoundStep}
use Rattle.rounds.specs.Steps.{no_data, refused, new_of, with_bets_of, advance_of, bet_of, current_bet, passed_of, amount_of}
use Rattle.layout.specs.Laid.{floats_data_laid, numbers_data_laid}
use Rattle.layout.specs.Standing.{room_for, data_at, data_stands_in}
use Rattle.layout.specs.Words.{flag_of}

-- 19
abbrev pub nothing_there : RoundStep
nothing_there = refused (Added BadRecord) no_data

-- ---- new data asks only for room in lists of these lengths
abbrev pub new_on : ℕ → ℕ → ℕ → Float → ℕ → ℕ → RoundStep
new_on floats numbers n m active to = cond (room_for floats numbers) (new_of n m (of_bits active) to) nothing_there

abbrev pub with_bets_on : ℕ → ℕ → Float → ℕ → ℕ → List Float → RoundStep
with_bets_on floats numbers m active to bets = cond (room_for floats numbers) (with_bets_of m (of_bits active) to bets) nothing_there

-- ---- a step asks that round data stands there
abbrev pub on_data : List Float → List ℕ → RoundStep → RoundStep
on_data fs ns s = cond (data_stands_in fs ns) s nothing_there

abbrev pub advance_on : List Float → List ℕ → RoundStep
advance_on fs ns = on_data fs ns (advance_of (data_at fs ns))

abbrev pub bet_on : List Float → List ℕ → Float → Bool → RoundStep
bet_on fs ns x forced = on_data fs ns (bet_of (data_at fs ns) x forced)

-- ---- the lists after it: as they were where it is refused
abbrev pub data_floats_after : ℕ → RoundStep → List Float → List Float
data_floats_after numbers s fs = cond (eqb (verdict_number s.answer) 0) (floats_data_laid numbers s.round_data fs) fs

abbrev pub data_numbers_after : ℕ → RoundStep → List ℕ → List ℕ
data_numbers_after floats s ns = cond (eqb (verdict_number s.answer) 0) (numbers_data_laid floats s.round_data (passed_of s.answer) ns) ns

-- where it answers 0, the step's round data stands there
abbrev pub DataStands : ℕ → List Float → List ℕ → RoundStep → Type 0
DataStands r fs' ns' s = r ≡ 0 → data_at fs' ns' ≡ s.round_data

-- ---- what is asked of it, told in two other lists: 1 amount and 3 answers
abbrev pub amounts_asked : RoundData → List Float
amounts_asked d = amount_of (current_bet d) ∷ []

abbrev pub answers_asked : RoundData → List ℕ
answers_asked d = count_to 16 d.needs_action.set ∷ flag_of (eqb d.total_bet_count d.forced_bet_count) ∷ verdict_number (current_bet d) ∷ []

abbrev pub is_asked : List Float → List ℕ → ℕ → ℕ → Bool
is_asked fs ns amounts answers = (leb 1 amounts && leb 3 answers) && data_stands_in fs ns

abbrev pub amounts_told : Bool → RoundData → List Float → List Float
amounts_told asked d out = cond asked (copied nan 0 out 0 (amounts_asked d) 1) out

abbrev pub answers_told : Bool → RoundData → List ℕ → List ℕ
answers_told asked d out = cond asked (copied 0 0 out 0 (answers_asked d) 3) out
