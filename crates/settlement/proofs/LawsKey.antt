-- The key of the hand, over all steps at once. Whatever is done to a table, accepted or refused, it has the key that it had (`key-stays`); and on a table with
-- another good key the answer is the same, and the table after it the same but for the key (`key_apart`). Assumes nothing.
use Rattle.std.proofs.Common.{◌≡◌, ℕ, Bool, true, not, List, [], ◌∷◌, ℤ, refl, ◌∙◌}
use lib.Ieee.{Float}
use Rattle.std.specs.Prelude.{Result}
use Rattle.refusals.specs.declared.Refusal.TheVariants.{Added}
use Rattle.refusals.specs.declared.AddedError.TheVariants.{AlreadyPaid, NotWholeChips, NobodyLeft}
use Rattle.refusals.proofs.Rows.{answer-of}
use Rattle.refusals.specs.declared.Refusal.{Refusal}
use Rattle.refusals.specs.Rows.{row, Verdict, judge, answer}
use Rattle.keys.specs.declared.HandKey.{HandKey}
use Rattle.keys.specs.Keys.{is_good}
use Rattle.table.specs.declared.GameState.{GameState}
use Rattle.table.specs.declared.AgentAction.{AgentAction}
use Rattle.table.specs.declared.BetStep.{BetStep}
use Rattle.table.specs.declared.TableStep.{TableStep}
use Rattle.table.specs.Added.{good_added}
use Rattle.table.specs.Choice.{choice_of}
use Rattle.table.specs.Pay.{bet_of, fold_of, award_of}
use Rattle.table.specs.Rounds.{advance_of, complete_of}
use Rattle.table.proofs.LawsKey.{rekeyed, given, judged, bet-carries, fold-carries, advance-carries, complete-carries, award-carries, choice_carries, bet_apart, fold_apart, advance_apart, complete_apart, award_apart, choice_apart}
use Rattle.table.specs.declared.Paid.{Paid}
use Rattle.layers.specs.Settlement.{awards_of}
use Rattle.settlement.specs.declared.Settled.{Settled}
use Rattle.settlement.specs.Hand.{hand_of}
use Rattle.settlement.specs.Settlement.{is_paid, is_whole_table, someone, settle_rows, paid_out, refused, settled_of}

-- ---- the settlement
pub settled-carries : (t : GameState) (ranks : List ℕ) → (settled_of t ranks).table.added ≡ t.added
unfolding settled_of
settled-carries t ranks = answer-of _ (refused t) (λ (s : Settled). s.table.added ≡ t.added) (judge (settle_rows t (someone t ranks))) (λ v. refl) (λ r. refl)

abbrev pub settled_rekeyed : HandKey → Settled → Settled
settled_rekeyed k s = record { answer = s.answer; table = rekeyed k s.table; rewards = s.rewards }

module _ (t : GameState) (k : HandKey) (g : good_added t.added ≡ true) (h : is_good k ≡ true) where
  pub settled_apart : (ranks : List ℕ) → settled_of (rekeyed k t) ranks ≡ settled_rekeyed k (settled_of t ranks)
  unfolding settled_of
  settled_apart ranks =
      let rest = row (is_paid t) (Added AlreadyPaid) ∷ row (not (is_whole_table t)) (Added NotWholeChips) ∷ row (not (someone t ranks)) (Added NobodyLeft) ∷ [] in
      let paid = paid_out t (awards_of (hand_of t ranks)) in
      (λ i. answer (settled_rekeyed k paid) (refused (rekeyed k t)) (judged t k g h rest i)) ∙ given (settled_rekeyed k) paid (refused t) (judge (settle_rows t (someone t ranks)))

-- ---- all that is done to a table, and what it answers
pub data Step : Type 0 where
  bet : Float → Bool → Step
  fold : Step
  advance : Step
  complete : Step
  award : ℕ → Float → Step
  choose : AgentAction → Step
  settle : List ℕ → Step

pub data Answer : Type 0 where
  betting : Result Paid Refusal → Answer
  stepping : Result ℕ Refusal → Answer
  settling : Verdict → List ℤ → Answer

pub record Taken : Type 0 where
  pub answer : Answer
  pub table : GameState

bet_taken : BetStep → Taken
bet_taken s = record { answer = betting s.answer; table = s.table }

step_taken : TableStep → Taken
step_taken s = record { answer = stepping s.answer; table = s.table }

settled_taken : Settled → Taken
settled_taken s = record { answer = settling s.answer s.rewards; table = s.table }

-- each by the definition that its call promises
pub taken : Step → GameState → Taken
taken (bet a forced) t = bet_taken (bet_of t a forced)
taken fold t = step_taken (fold_of t)
taken advance t = step_taken (advance_of t)
taken complete t = step_taken (complete_of t)
taken (award i x) t = step_taken (award_of t i x)
taken (choose c) t = bet_taken (choice_of t c)
taken (settle ranks) t = settled_taken (settled_of t ranks)

-- ---- the two laws
pub key-stays : (s : Step) (t : GameState) → (taken s t).table.added.key ≡ t.added.key
unfolding taken bet_taken step_taken settled_taken
key-stays (bet a forced) t = λ i. (bet-carries t a forced i).key
key-stays fold t = λ i. (fold-carries t i).key
key-stays advance t = λ i. (advance-carries t i).key
key-stays complete t = λ i. (complete-carries t i).key
key-stays (award j x) t = λ i. (award-carries t j x i).key
key-stays (choose c) t = λ i. (choice_carries t c i).key
key-stays (settle ranks) t = λ i. (settled-carries t ranks i).key

abbrev pub taken_rekeyed : HandKey → Taken → Taken
taken_rekeyed k s = record { answer = s.answer; table = rekeyed k s.table }

pub key_apart : (s : Step) (t : GameState) (k : HandKey) → is_good t.added.key ≡ true → is_good k ≡ true → taken s (rekeyed k t) ≡ taken_rekeyed k (taken s t)
unfolding good_added taken bet_taken step_taken settled_taken
key_apart (bet a forced) t k g h = λ i. bet_taken (bet_apart t k g h a forced i)
key_apart fold t k g h = λ i. step_taken (fold_apart t k g h i)
key_apart advance t k g h = λ i. step_taken (advance_apart t k g h i)
key_apart complete t k g h = λ i. step_taken (complete_apart t k g h i)
key_apart (award j x) t k g h = λ i. step_taken (award_apart t k g h j x i)
key_apart (choose c) t k g h = λ i. bet_taken (choice_apart t k g h c i)
key_apart (settle ranks) t k g h = λ i. settled_taken (settled_apart t k g h ranks i)
