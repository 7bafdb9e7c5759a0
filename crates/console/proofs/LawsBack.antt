-- A refused line leaves what stands: an act whose number is not 0 is beside the state before it. Each step's own law says so of its
-- record. Assumes nothing.
use Rattle.refusals.specs.Rows.{Verdict, verdict_number}
use Rattle.std.proofs.Common.{◌≡◌, ℕ, true, false, eqb, ◌≢◌, List, take, refl, ◌∙◌}
use Rattle.std.specs.Prelude.{Some, Result, Ok, Err}
use Rattle.refusals.specs.declared.AddedError.{AddedError}
use Rattle.commons.proofs.Bools.{pick}
use Rattle.table.specs.declared.GameState.{GameState}
use Rattle.table.specs.declared.TableStep.{TableStep}
use Rattle.table.specs.declared.BetStep.{BetStep}
use Rattle.table.specs.Pay.{bet_of, fold_of}
use Rattle.table.specs.Rounds.{advance_of, complete_of}
use Rattle.table.proofs.LawsRows.{bet-back, fold-back, advance-back, complete-back}
use Rattle.settlement.specs.Settlement.{settled_of}
use Rattle.settlement.proofs.Accepted.{refusal-keeps}
use Rattle.script.specs.declared.line.Words.{Words}
use Rattle.script.specs.declared.line.Line.{Line}
use Rattle.script.specs.declared.line.Line.TheVariants.{Table, Advance, Fold, Bet, Forced, Complete, Settle, Key}
use Rattle.script.specs.Line.{meaning_of}
use Rattle.console.specs.declared.act.State.{State}
use Rattle.console.specs.declared.act.Act.{Act}
use Rattle.console.specs.Opening.{chips_of, opening_of}
use Rattle.console.specs.Act.{act_number, on_table, acted, bad_line, needing, stepped, wagered, settled, ranked_at, ranked, opened, done, act_of}
use Rattle.console.proofs.LawsAct.{needing_by, told-number}

-- what stood is left unless the line was accepted
abbrev pub Kept : State → Act → Type 0
Kept s a = act_number a ≢ 0 → a.state ≡ s

-- a step of the table that stands leaves it unless its own number is 0
given-back : (s : State) (t u : GameState) (a : Verdict) (k : ℕ) → s.table ≡ Some t → verdict_number a ≡ k → (k ≢ 0 → u ≡ t) → Kept s (acted a (on_table u s.key))
given-back s t u a k e n b h = let same : u ≡ t = b (λ z. h (n ∙ z)) in rw (same, ← e) refl

opened-back : (s : State) (t : GameState) (a : Verdict) → Kept s (opened s (record { answer = a; table = t }))
opened-back s t (Ok _) h = absurd (h refl)
opened-back s t (Err r) h = refl

ranked-back : (s : State) (count : ℕ) (ns : List ℕ) → Kept s (ranked s count ns)
unfolding ranked
ranked-back s count ns =
    needing_by s (ranked_at s count ns) (Kept s) (λ h. refl)
    (λ t e. pick (Kept s) (eqb count t.num_players) (settled s.key (settled_of t (take 16 ns))) (bad_line s)
    (given-back s t _ _ _ e refl (λ h. (refusal-keeps t (take 16 ns) h).0))
    (λ h. refl))

module _ (s : State) where
  stepped-back : (f : GameState → TableStep) → ((t : GameState) → verdict_number (f t).answer ≢ 0 → (f t).table ≡ t) → Kept s (needing s (λ t. stepped s.key (f t)))
  stepped-back f b = needing_by s (λ t. stepped s.key (f t)) (Kept s) (λ h. refl) (λ t e. given-back s t _ _ _ e (told-number (f t).answer) (b t))

  wagered-back : (f : GameState → BetStep) → ((t : GameState) → verdict_number (f t).answer ≢ 0 → (f t).table ≡ t) → Kept s (needing s (λ t. wagered s.key (f t)))
  wagered-back f b = needing_by s (λ t. wagered s.key (f t)) (Kept s) (λ h. refl) (λ t e. given-back s t _ _ _ e (told-number (f t).answer) (b t))

  done-back : (w : Words) (l : Result Line AddedError) → Kept s (done s w l)
  done-back w (Ok Table) = opened-back s _ (opening_of s.key w.count w.numbers).answer
  done-back w (Ok Advance) = stepped-back advance_of advance-back
  done-back w (Ok Fold) = stepped-back fold_of fold-back
  done-back w (Ok (Bet x)) = wagered-back (λ t. bet_of t (chips_of x) false) (λ t. bet-back t (chips_of x) false)
  done-back w (Ok (Forced x)) = wagered-back (λ t. bet_of t (chips_of x) true) (λ t. bet-back t (chips_of x) true)
  done-back w (Ok Complete) = stepped-back complete_of complete-back
  done-back w (Ok Settle) = ranked-back s w.count w.numbers
  done-back w (Ok Key) = λ h. absurd (h refl)
  done-back w (Err e) = λ h. refl

pub refused-keeps : (w : Words) (s : State) → act_number (act_of w s) ≢ 0 → (act_of w s).state ≡ s
unfolding act_of
refused-keeps w s = done-back s w (meaning_of w)
