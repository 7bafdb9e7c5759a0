-- Each step by its rows. Its number is that of the first row that holds, and 0 where none does: the order of its refusals is the list of its rows. A
-- refused step hands the record back. Assumes nothing.
use Rattle.std.specs.Prelude.{Result, Ok, Err}
use Rattle.refusals.specs.declared.Refusal.{Refusal}
use Prim.Native.Nat.{ℕ}
use mathlib.Core.Path.{◌≡◌, refl}
use mathlib.Core.Logic.{◌≢◌}
use mathlib.Core.Bool.{Bool, false, cond}
use mathlib.Core.List.{List}
use lib.Ieee.{Float, inf}
use Rattle.commons.proofs.Bools.{pick}
use Rattle.refusals.specs.Rows.{Row, judge, verdict_number}
use Rattle.refusals.proofs.Rows.{answer-number, answer-of}
use Rattle.floats.specs.Helpers.{zerof}
use Rattle.rounds.specs.Steps.{amount_of}
use Rattle.table.specs.declared.GameState.{GameState}
use Rattle.table.specs.declared.AgentAction.{AgentAction}
use Rattle.table.specs.declared.AgentAction.TheVariants.{Fold, Call, Bet, AllIn}
use Rattle.table.specs.declared.BetStep.{BetStep}
use Rattle.table.specs.declared.TableStep.{TableStep}
use Rattle.table.specs.Answers.{done, step_by, sound_rows}
use Rattle.table.specs.Choice.{choice_of, paying_nothing}
use Rattle.table.specs.Pay.{bet_rows, bet_of, folded_step, fold_of, awarded, seat_rows, award_of, reward_of}
use Rattle.table.specs.Rounds.{advance_of, advanced_step, complete_of, completed_step, is_round}

-- ---- any step that is accepted with 0
module _ (rows : List Row) (t : GameState) (s : TableStep) (e : verdict_number s.answer ≡ 0) where
  pub step_order : verdict_number (step_by rows t s).answer ≡ verdict_number (judge rows)
  step_order = answer-number s _ (λ (r : TableStep). verdict_number r.answer) e (λ r. refl) (judge rows)

  pub step_back : verdict_number (step_by rows t s).answer ≢ 0 → (step_by rows t s).table ≡ t
  step_back = answer-of s _ (λ (r : TableStep). verdict_number r.answer ≢ 0 → r.table ≡ t) (judge rows) (λ v h. absurd (h e)) (λ r h. refl)

-- a round that is entered, or stays
entered : (t : GameState) (s : TableStep) → verdict_number s.answer ≡ 0 → verdict_number (cond (is_round t.round 11) (done 0 t) s).answer ≡ 0
entered t s e = pick (λ (r : TableStep). verdict_number r.answer ≡ 0) (is_round t.round 11) (done 0 t) s refl e

-- ---- the steps
module _ (t : GameState) where
  -- 19 alone
  pub fold_order : verdict_number (fold_of t).answer ≡ verdict_number (judge (sound_rows t))
  unfolding fold_of
  fold_order = step_order (sound_rows t) t (folded_step t) refl

  pub fold-back : verdict_number (fold_of t).answer ≢ 0 → (fold_of t).table ≡ t
  unfolding fold_of
  fold-back = step_back (sound_rows t) t (folded_step t) refl

  pub advance_order : verdict_number (advance_of t).answer ≡ verdict_number (judge (sound_rows t))
  unfolding advance_of
  advance_order = step_order (sound_rows t) t _ (entered t (advanced_step t) refl)

  pub advance-back : verdict_number (advance_of t).answer ≢ 0 → (advance_of t).table ≡ t
  unfolding advance_of
  advance-back = step_back (sound_rows t) t _ (entered t (advanced_step t) refl)

  pub complete_order : verdict_number (complete_of t).answer ≡ verdict_number (judge (sound_rows t))
  unfolding complete_of
  complete_order = step_order (sound_rows t) t _ (entered t (completed_step t) refl)

  pub complete-back : verdict_number (complete_of t).answer ≢ 0 → (complete_of t).table ≡ t
  unfolding complete_of
  complete-back = step_back (sound_rows t) t _ (entered t (completed_step t) refl)

  -- 19, 20
  pub award_order : (i : ℕ) (x : Float) → verdict_number (award_of t i x).answer ≡ verdict_number (judge (seat_rows t i))
  unfolding award_of
  award_order i x = step_order (seat_rows t i) t (done 0 (awarded t i x)) refl

  pub award-back : (i : ℕ) (x : Float) → verdict_number (award_of t i x).answer ≢ 0 → (award_of t i x).table ≡ t
  unfolding award_of
  award-back i x = step_back (seat_rows t i) t (done 0 (awarded t i x)) refl

  pub reward_order : (i : ℕ) → verdict_number (reward_of t i) ≡ verdict_number (judge (seat_rows t i))
  unfolding reward_of
  reward_order i = answer-number _ _ verdict_number refl (λ r. refl) (judge (seat_rows t i))

  -- a refused reward is 0
  pub reward_back : (i : ℕ) → verdict_number (reward_of t i) ≢ 0 → amount_of (reward_of t i) ≡ zerof
  unfolding reward_of
  reward_back i = answer-of _ _ (λ (a : (Result Float Refusal)). verdict_number a ≢ 0 → amount_of a ≡ zerof) (judge (seat_rows t i)) (λ v h. absurd (h refl)) (λ r h. refl)

  -- 19, 14 to 17, 21; forced: 19, 21
  pub bet_order : (a : Float) (forced : Bool) → verdict_number (bet_of t a forced).answer ≡ verdict_number (judge (bet_rows t a forced))
  unfolding bet_of
  bet_order a forced = answer-number _ _ (λ (s : BetStep). verdict_number s.answer) refl (λ r. refl) (judge (bet_rows t a forced))

  pub bet-back : (a : Float) (forced : Bool) → verdict_number (bet_of t a forced).answer ≢ 0 → (bet_of t a forced).table ≡ t
  unfolding bet_of
  bet-back a forced = answer-of _ _ (λ (s : BetStep). verdict_number s.answer ≢ 0 → s.table ≡ t) (judge (bet_rows t a forced)) (λ v h. absurd (h refl)) (λ r h. refl)

-- ---- the choice: a fold as a bet's answer has the fold's number
same_number : (a : (Result ℕ Refusal)) → verdict_number (paying_nothing a) ≡ verdict_number a
same_number (Ok k) = refl
same_number (Err r) = refl

pub choice_back : (t : GameState) (c : AgentAction) → verdict_number (choice_of t c).answer ≢ 0 → (choice_of t c).table ≡ t
unfolding choice_of
choice_back t Fold = λ h. fold-back t (rw (same_number (fold_of t).answer) at h)
choice_back t Call = bet-back t t.round_data.bet false
choice_back t (Bet a) = bet-back t a false
choice_back t AllIn = bet-back t (inf false) false
