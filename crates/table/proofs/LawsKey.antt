-- The key of the hand, step by step. A step, accepted or refused, leaves what is added as it was (`.. -carries`). And nothing hangs on the key: on a table
-- with another good key a step gives the same answer, and the same table but for the key (`.. -apart`). Assumes nothing.
use Rattle.std.specs.Prelude.{Ok, Err}
use Rattle.refusals.specs.Rows.{Verdict}
use Prim.Native.Nat.{ℕ}
use mathlib.Core.Path.{◌≡◌, refl, ◌∙◌}
use mathlib.Core.Bool.{Bool, true, false, cond, not}
use mathlib.Core.List.{List, [], ◌∷◌}
use lib.Dec.{ltb}
use lib.ListN.{get_or}
use lib.Ieee.{Float, nan, inf, binary32, sub}
use Rattle.commons.proofs.Bools.{pick}
use Rattle.refusals.specs.declared.Refusal.{Refusal}
use Rattle.refusals.specs.declared.Refusal.TheVariants.{Added}
use Rattle.refusals.specs.declared.AddedError.TheVariants.{BadRecord, BadSeat}
use Rattle.refusals.specs.Rows.{Row, row, give_if, judge, answer}
use Rattle.refusals.proofs.Rows.{answer-of}
use Rattle.keys.specs.declared.HandKey.{HandKey}
use Rattle.keys.specs.Keys.{is_good}
use Rattle.seats.specs.Bits.{count_to}
use Rattle.table.specs.declared.GameState.{GameState}
use Rattle.table.specs.declared.AgentAction.{AgentAction}
use Rattle.table.specs.declared.AgentAction.TheVariants.{Fold, Call, Bet, AllIn}
use Rattle.table.specs.declared.BetStep.{BetStep}
use Rattle.table.specs.declared.TableStep.{TableStep}
use Rattle.table.specs.Added.{added_of, good_added}
use Rattle.table.specs.Answers.{done, refused, not_paid, step_by, sound_rows}
use Rattle.table.specs.Choice.{choice_of, as_bet}
use Rattle.table.specs.Pay.{payer_in, pays_of, paid_step, verdict_rows, bet_rows, bet_of, folded_step, fold_of, awarded, seat_rows, award_of, reward_of}
use Rattle.table.specs.Queries.{at_seat, is_capped, is_complete, round_bet_at}
use Rattle.table.specs.Rounds.{is_round, advanced_step, advance_of, completed_step, complete_of}
use Rattle.table.specs.Sound.{sound_frame, sound_of}
use Rattle.table.specs.With.{table_of}

-- ---- what is added stays
module _ (t : GameState) where
  abbrev Carried : TableStep → Type 0
  Carried s = s.table.added ≡ t.added

  abbrev BetCarried : BetStep → Type 0
  BetCarried s = s.table.added ≡ t.added

  step-carries : (rows : List Row) (s : TableStep) → Carried s → Carried (step_by rows t s)
  step-carries rows s e = answer-of s _ Carried (judge rows) (λ v. e) (λ r. refl)

  pub bet-carries : (a : Float) (forced : Bool) → (bet_of t a forced).table.added ≡ t.added
  unfolding bet_of
  bet-carries a forced = answer-of _ _ BetCarried (judge (bet_rows t a forced)) (λ v. refl) (λ r. refl)

  pub fold-carries : (fold_of t).table.added ≡ t.added
  unfolding fold_of
  fold-carries = step-carries (sound_rows t) (folded_step t) refl

  pub award-carries : (i : ℕ) (x : Float) → (award_of t i x).table.added ≡ t.added
  unfolding award_of
  award-carries i x = step-carries (seat_rows t i) (done 0 (awarded t i x)) refl

  pub advance-carries : (advance_of t).table.added ≡ t.added
  unfolding advance_of
  advance-carries = step-carries (sound_rows t) _ (pick Carried (is_round t.round 11) (done 0 t) (advanced_step t) refl refl)

  pub complete-carries : (complete_of t).table.added ≡ t.added
  unfolding complete_of
  complete-carries = step-carries (sound_rows t) _ (pick Carried (is_round t.round 11) (done 0 t) (completed_step t) refl refl)

  pub choice_carries : (c : AgentAction) → (choice_of t c).table.added ≡ t.added
  unfolding choice_of
  choice_carries Fold = fold-carries
  choice_carries Call = bet-carries t.round_data.bet false
  choice_carries (Bet a) = bet-carries a false
  choice_carries AllIn = bet-carries (inf false) false

-- ---- a table with another key, and so a step
abbrev pub rekeyed : HandKey → GameState → GameState
rekeyed k t =
    table_of t.num_players t.player_active.set t.player_all_in.set t.total_pot t.stacks t.starting_stacks t.player_bet t.player_winnings
    t.big_blind t.small_blind t.ante t.dealer_idx t.round t.round_before t.round_data t.board t.board_len
    t.bb_posted t.sb_posted t.has_max_raises t.max_raises_per_round (added_of k)

abbrev pub step_rekeyed : HandKey → TableStep → TableStep
step_rekeyed k s = record { answer = s.answer; table = rekeyed k s.table }

abbrev pub bet_rekeyed : HandKey → BetStep → BetStep
bet_rekeyed k s = record { answer = s.answer; table = rekeyed k s.table }

-- ---- what a table is asked, each by the definition that its call promises: no question looks at the key, be it good or bad
abbrev pub numbers_asked : GameState → List ℕ
numbers_asked t = count_to 16 t.player_active.set ∷ count_to 16 t.player_all_in.set ∷ count_to 16 t.round_data.needs_action.set ∷ t.round_data.to_act_idx ∷ []

abbrev pub tests_asked : GameState → List Bool
tests_asked t = is_capped t ∷ is_complete t ∷ []

abbrev pub amounts_asked : GameState → ℕ → List Float
amounts_asked t i =
    let seat = t.round_data.to_act_idx in
    at_seat t.num_players t.stacks seat
    ∷ at_seat t.num_players t.starting_stacks seat
    ∷ round_bet_at t seat
    ∷ t.round_data.bet
    ∷ round_bet_at t i
    ∷ t.round_data.min_raise
    ∷ []

pub questions_apart : (t : GameState) (k : HandKey) (i : ℕ) → (numbers_asked (rekeyed k t) ≡ numbers_asked t) × ((tests_asked (rekeyed k t) ≡ tests_asked t) × (amounts_asked (rekeyed k t) i ≡ amounts_asked t i))
questions_apart t k i = (refl, (refl, refl))

-- what is done to each answer of a verdict, or to either of two, is done to the one that is given
pub given : {A B : Type 0} (f : A → B) (a : A) (g : Refusal → A) (v : Verdict) → answer (f a) (λ r. f (g r)) v ≡ f (answer a g v)
given f a g (Ok _) = refl
given f a g (Err r) = refl

pub chosen : {A B : Type 0} (f : A → B) (b : Bool) (x y : A) → cond b (f x) (f y) ≡ f (cond b x y)
chosen f true x y = refl
chosen f false x y = refl

module _ (t : GameState) (k : HandKey) (g : good_added t.added ≡ true) (h : is_good k ≡ true) where
  abbrev u : GameState
  u = rekeyed k t

  good : good_added u.added ≡ true
  unfolding good_added
  good = h

  pub sound_apart : sound_of u ≡ sound_of t
  unfolding sound_frame
  sound_apart = rw (good, g) refl

  -- the first row of each step is that of soundness
  pub judged : (rest : List Row) → judge (row (not (sound_of u)) (Added BadRecord) ∷ rest) ≡ judge (row (not (sound_of t)) (Added BadRecord) ∷ rest)
  judged rest = λ i. give_if (not (sound_apart i)) (Added BadRecord) (judge rest)

  step_apart : (rest : List Row) (s : TableStep) → step_by (row (not (sound_of u)) (Added BadRecord) ∷ rest) u (step_rekeyed k s) ≡ step_rekeyed k (step_by (row (not (sound_of t)) (Added BadRecord) ∷ rest) t s)
  step_apart rest s =
      (λ i. answer (step_rekeyed k s) (λ r. refused r u) (judged rest i)) ∙ given (step_rekeyed k) s (λ r. refused r t) (judge (row (not (sound_of t)) (Added BadRecord) ∷ rest))

  pub bet_apart : (a : Float) (forced : Bool) → bet_of u a forced ≡ bet_rekeyed k (bet_of t a forced)
  unfolding bet_of
  bet_apart a forced =
      let paid = paid_step t (pays_of (payer_in t) a forced) forced in
      (λ i. answer (bet_rekeyed k paid) (λ r. not_paid r u) (judged (verdict_rows (payer_in t) a forced) i)) ∙ given (bet_rekeyed k) paid (λ r. not_paid r t) (judge (bet_rows t a forced))

  pub fold_apart : fold_of u ≡ step_rekeyed k (fold_of t)
  unfolding fold_of
  fold_apart = step_apart [] (folded_step t)

  pub award_apart : (i : ℕ) (x : Float) → award_of u i x ≡ step_rekeyed k (award_of t i x)
  unfolding award_of
  award_apart i x = step_apart (row (not (ltb i t.num_players)) (Added BadSeat) ∷ []) (done 0 (awarded t i x))

  -- a round that is entered, or stays
  entered : (s : TableStep) → step_by (sound_rows u) u (cond (is_round t.round 11) (done 0 u) (step_rekeyed k s)) ≡ step_rekeyed k (step_by (sound_rows t) t (cond (is_round t.round 11) (done 0 t) s))
  entered s = (λ i. step_by (sound_rows u) u (chosen (step_rekeyed k) (is_round t.round 11) (done 0 t) s i)) ∙ step_apart [] (cond (is_round t.round 11) (done 0 t) s)

  pub advance_apart : advance_of u ≡ step_rekeyed k (advance_of t)
  unfolding advance_of
  advance_apart = entered (advanced_step t)

  pub complete_apart : complete_of u ≡ step_rekeyed k (complete_of t)
  unfolding complete_of
  complete_apart = entered (completed_step t)

  pub choice_apart : (c : AgentAction) → choice_of u c ≡ bet_rekeyed k (choice_of t c)
  unfolding choice_of
  choice_apart Fold = λ i. as_bet (fold_apart i)
  choice_apart Call = bet_apart t.round_data.bet false
  choice_apart (Bet a) = bet_apart a false
  choice_apart AllIn = bet_apart (inf false) false

  -- the reward is an answer alone
  pub reward_apart : (i : ℕ) → reward_of u i ≡ reward_of t i
  unfolding reward_of
  reward_apart i = λ z. answer (Ok (sub binary32 (get_or t.stacks i nan) (get_or t.starting_stacks i nan))) Err (judged (row (not (ltb i t.num_players)) (Added BadSeat) ∷ []) z)
