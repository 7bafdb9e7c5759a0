-- R13.8: after any step, refused or not, each list has from n on what it had. Assumes nothing.
use Rattle.std.specs.Prelude.{Ok}
use Prim.Native.Nat.{ℕ, ◌<◌, ◌≤◌, min}
use native.Mathlib.Omega.{arith}
use mathlib.Core.Path.{◌≡◌, refl}
use mathlib.Core.Bool.{Bool, true, false, not}
use mathlib.Core.List.{List}
use lib.Dec.{ltb}
use borrow.Author.Tests.{ltb-true}
use lib.ListN.{get_or, set}
use lib.Seq.{get_or-set_other}
use lib.Ieee.{Float, nan, inf, binary32, add}
use Rattle.floats.specs.Helpers.{zerof}
use Rattle.commons.proofs.Filled.{filled-out}
use Rattle.commons.proofs.Bools.{pick, turned}
use Rattle.refusals.specs.Rows.{Row, judge}
use Rattle.refusals.proofs.Rows.{answer-of, fails-at}
use Rattle.rounds.specs.declared.Round.{Round}
use Rattle.rounds.specs.Paying.{left_of, new_round_bet}
use Rattle.rounds.specs.Steps.{stake_in}
use Rattle.table.specs.declared.GameState.{GameState}
use Rattle.table.specs.declared.AgentAction.{AgentAction}
use Rattle.table.specs.declared.AgentAction.TheVariants.{Fold, Call, Bet, AllIn}
use Rattle.table.specs.declared.BetStep.{BetStep}
use Rattle.table.specs.declared.TableStep.{TableStep}
use Rattle.table.specs.Answers.{done, step_by, sound_rows}
use Rattle.table.specs.Choice.{choice_of}
use Rattle.table.specs.Pay.{actor, payer_in, pays_of, table_paid, bet_rows, bet_of, folded_step, fold_of, awarded, seat_rows, award_of}
use Rattle.table.specs.Rounds.{advance_of, complete_of, is_round, fresh_data, advanced_step, completed_step}
use Rattle.table.specs.Sound.{sound_of}
use Rattle.table.specs.With.{with_round}
use Rattle.table.proofs.Sound.{sound}

-- two lists agree from place n on
abbrev pub Agree : ℕ → List Float → List Float → Type 0
Agree n l m = (j : ℕ) → n ≤ j → get_or l j nan ≡ get_or m j nan

-- u has in each list, from t's n on, what t has
pub record Kept (t u : GameState) : Type 0 where
  pub stacks : Agree t.num_players u.stacks t.stacks
  pub starting : Agree t.num_players u.starting_stacks t.starting_stacks
  pub bets : Agree t.num_players u.player_bet t.player_bet
  pub winnings : Agree t.num_players u.player_winnings t.player_winnings
  pub round : Agree t.num_players u.round_data.player_bet t.round_data.player_bet

untouched : (t : GameState) → Kept t t
untouched t = record { stacks = λ j h. refl; starting = λ j h. refl; bets = λ j h. refl; winnings = λ j h. refl; round = λ j h. refl }

-- a store at a seat below n
below-n : (l : List Float) (i n : ℕ) (x : Float) → i < n → Agree n (set l i x) l
below-n l i n x h j k = get_or-set_other l i j x nan (λ e. omega arith)

module _ (t : GameState) where
  paid_kept : (x : Float) (forced : Bool) → actor t < t.num_players → Kept t (table_paid t x forced)
  paid_kept x forced h = record {
    stacks = below-n t.stacks (actor t) t.num_players (left_of (payer_in t) x) h;
    starting = λ j k. refl;
    bets = below-n t.player_bet (actor t) t.num_players (add binary32 (payer_in t).hand_bet x) h;
    winnings = λ j k. refl;
    round = below-n t.round_data.player_bet (actor t) t.num_players (new_round_bet (stake_in t.round_data) x) h;
  }

  fold-kept : Kept t (folded_step t).table
  fold-kept = record { stacks = λ j h. refl; starting = λ j h. refl; bets = λ j h. refl; winnings = λ j h. refl; round = λ j h. refl }

  award-kept : (i : ℕ) (x : Float) → i < t.num_players → Kept t (awarded t i x)
  award-kept i x h = record {
    stacks = below-n t.stacks i t.num_players (add binary32 (get_or t.stacks i nan) x) h;
    starting = λ j k. refl;
    bets = λ j k. refl;
    winnings = below-n t.player_winnings i t.num_players (add binary32 (get_or t.player_winnings i nan) x) h;
    round = λ j k. refl;
  }

  round-kept : (now before : Round) (active to : ℕ) → Kept t (with_round t now before (fresh_data t active to))
  round-kept now before active to = record {
    stacks = λ j h. refl;
    starting = λ j h. refl;
    bets = λ j h. refl;
    winnings = λ j h. refl;
    round = λ j h. filled-out t.round_data.player_bet (λ i. zerof) (min t.num_players 16) j nan (omega arith);
  }

-- ---- the steps, accepted or refused; where one stands, its record is sound
module _ (t : GameState) where
  abbrev BetKept : BetStep → Type 0
  BetKept s = Kept t s.table

  abbrev StepKept : TableStep → Type 0
  StepKept s = Kept t s.table

  -- the first row is the record's
  is-sound : (b : Bool) → not b ≡ false → b ≡ true
  is-sound b e = turned b false e

  step_kept : (rows : List Row) (s : TableStep) → (judge rows ≡ (Ok tt) → StepKept s) → StepKept (step_by rows t s)
  step_kept rows s k = answer-of s _ StepKept (judge rows) k (λ r. untouched t)

  pub bet-kept : (a : Float) (forced : Bool) → Kept t (bet_of t a forced).table
  unfolding bet_of
  bet-kept a forced =
      answer-of _ _ BetKept (judge (bet_rows t a forced))
      (λ e. paid_kept t (pays_of (payer_in t) a forced) forced (sound t (is-sound (sound_of t) (fails-at (bet_rows t a forced) e 0))).acts) (λ r. untouched t)

  pub folded-kept : Kept t (fold_of t).table
  unfolding fold_of
  folded-kept = step_kept (sound_rows t) (folded_step t) (λ e. fold-kept t)

  pub awarded-kept : (i : ℕ) (x : Float) → Kept t (award_of t i x).table
  unfolding award_of
  awarded-kept i x =
      step_kept (seat_rows t i) (done 0 (awarded t i x))
      (λ e. award-kept t i x (ltb-true i t.num_players (is-sound (ltb i t.num_players) (fails-at (seat_rows t i) e 1))))

  pub advanced_kept : Kept t (advance_of t).table
  unfolding advance_of
  advanced_kept = step_kept (sound_rows t) _ (λ e. pick StepKept (is_round t.round 11) (done 0 t) (advanced_step t) (untouched t) (round-kept t _ _ _ _))

  pub completed_kept : Kept t (complete_of t).table
  unfolding complete_of
  completed_kept = step_kept (sound_rows t) _ (λ e. pick StepKept (is_round t.round 11) (done 0 t) (completed_step t) (untouched t) (round-kept t _ _ _ _))

  pub choice_kept : (c : AgentAction) → Kept t (choice_of t c).table
  unfolding choice_of
  choice_kept Fold = folded-kept
  choice_kept Call = bet-kept t.round_data.bet false
  choice_kept (Bet a) = bet-kept a false
  choice_kept AllIn = bet-kept (inf false) false
