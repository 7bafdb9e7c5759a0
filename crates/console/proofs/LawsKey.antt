-- What a line does to the two keys: the one that the table carries, and the one that the next table takes. An accepted `t` gives the second to its table and
-- leaves none; `k` puts one in its place; every other line leaves both. That a refused line leaves both is `refused-keeps`. Assumes nothing.
use Rattle.refusals.specs.Rows.{Verdict, verdict_number}
use Rattle.std.proofs.Common.{◌≡◌, ℕ, true, false, ◌&&◌, eqb, leb, ◌≢◌, List, take, sym, refl, ap, subst, ⊎_elim, arith}
use Rattle.commons.proofs.Bools.{either, pick}
use Rattle.std.specs.Prelude.{Some, Result, Ok, Err}
use Rattle.std.specs.Option.{option_map}
use Rattle.refusals.specs.declared.AddedError.{AddedError}
use Rattle.refusals.proofs.Numbers.{numbered}
use Rattle.keys.specs.declared.HandKey.{HandKey}
use Rattle.keys.specs.Keys.{no_key}
use Rattle.table.specs.declared.GameState.{GameState}
use Rattle.table.specs.Pay.{bet_of, fold_of}
use Rattle.table.specs.Rounds.{advance_of, complete_of}
use Rattle.table.proofs.LawsKey.{bet-carries, fold-carries, advance-carries, complete-carries}
use Rattle.builder.specs.declared.BuildStep.{BuildStep}
use Rattle.builder.proofs.LawsKey.{build-carries}
use Rattle.settlement.specs.Settlement.{settled_of}
use Rattle.settlement.proofs.LawsKey.{settled-carries}
use Rattle.script.specs.declared.line.Words.{Words}
use Rattle.script.specs.declared.line.Line.{Line}
use Rattle.script.specs.declared.line.Line.TheVariants.{Table, Advance, Fold, Bet, Forced, Complete, Settle, Key}
use Rattle.script.specs.Line.{meaning_of}
use Rattle.console.specs.declared.act.State.{State}
use Rattle.console.specs.declared.act.Act.{Act}
use Rattle.console.specs.Opening.{chips_of, told, opening_of}
use Rattle.console.specs.Act.{act_number, bad_line, needing, stepped, wagered, settled, ranked_at, ranked, opened, keyed, done, act_of}
use Rattle.console.proofs.LawsAct.{needing_by}
use Rattle.console.proofs.LawsOpening.{opens, opens_not}

-- ---- `t`: where it is accepted, its table has the key that stood, and none stands any more
module _ (key : HandKey) where
  abbrev Takes : BuildStep → Type 0
  Takes r = r.answer ≡ Ok tt → r.table.added.key ≡ key

  opening_takes : (count : ℕ) (ns : List ℕ) → Takes (opening_of key count ns)
  opening_takes count ns =
      ⊎_elim (λ e. subst Takes (opens key count ns e) (λ h i. (build-carries (told key count ns) h i).key))
      (λ e. subst Takes (opens_not key count ns e) (λ h. absurd (let z : ◌≡◌ {A = ℕ} 0 1 = cc in omega arith))) (either (leb 6 count && leb count 20))

-- a table stands that carries the key, and none is left for the next
abbrev pub Used : State → Act → Type 0
Used s a = (t : GameState) × (a.state.table ≡ Some t) × (t.added.key ≡ s.key) × (a.state.key ≡ no_key)

opened_takes : (s : State) (t : GameState) (v : Verdict) → (v ≡ Ok tt → t.added.key ≡ s.key) → verdict_number v ≡ 0 → Used s (opened s (record { answer = v; table = t }))
opened_takes s t (Ok _) q z = (t, refl, q refl, refl)
opened_takes s t (Err r) q z = absurd (numbered r z)

pub table_takes_key : (w : Words) (s : State) → meaning_of w ≡ Ok Table → act_number (act_of w s) ≡ 0 → Used s (act_of w s)
unfolding act_of
table_takes_key w s e =
    let o = opening_of s.key w.count w.numbers in
    subst (λ (l : Result Line AddedError). act_number (done s w l) ≡ 0 → Used s (done s w l)) (sym e) (opened_takes s o.table o.answer (opening_takes s.key w.count w.numbers))

-- ---- `k`: accepted as it is, and nothing else moves
pub key-is-put : (w : Words) (s : State) → meaning_of w ≡ Ok Key → act_of w s ≡ keyed s w.numbers
unfolding act_of
key-is-put w s e = ap (done s w) e

-- ---- any other line leaves both keys, and whether a table stands
abbrev pub Left : State → Act → Type 0
Left s a = (option_map (λ t. t.added) a.state.table ≡ option_map (λ t. t.added) s.table) × (a.state.key ≡ s.key)

module _ (s : State) where
  needing-leaves : (f : GameState → Act) → ((t : GameState) → (option_map (λ t. t.added) (f t).state.table ≡ Some t.added) × ((f t).state.key ≡ s.key)) → Left s (needing s f)
  needing-leaves f g = needing_by s f (Left s) (refl, refl) (λ t e. rw e (g t))

  ranked-leaves : (count : ℕ) (ns : List ℕ) → Left s (ranked s count ns)
  unfolding ranked
  ranked-leaves count ns =
      needing_by s (ranked_at s count ns) (Left s) (refl, refl)
      (λ t e. pick (Left s) (eqb count t.num_players) (settled s.key (settled_of t (take 16 ns))) (bad_line s)
      (rw e (ap Some (settled-carries t (take 16 ns)), refl)) (refl, refl))

  done-leaves : (w : Words) (l : Result Line AddedError) → l ≢ Ok Table → l ≢ Ok Key → Left s (done s w l)
  done-leaves w (Ok Table) t k = absurd (t refl)
  done-leaves w (Ok Advance) t k = needing-leaves (λ t. stepped s.key (advance_of t)) (λ t. (ap Some (advance-carries t), refl))
  done-leaves w (Ok Fold) t k = needing-leaves (λ t. stepped s.key (fold_of t)) (λ t. (ap Some (fold-carries t), refl))
  done-leaves w (Ok (Bet x)) t k = needing-leaves (λ t. wagered s.key (bet_of t (chips_of x) false)) (λ t. (ap Some (bet-carries t (chips_of x) false), refl))
  done-leaves w (Ok (Forced x)) t k = needing-leaves (λ t. wagered s.key (bet_of t (chips_of x) true)) (λ t. (ap Some (bet-carries t (chips_of x) true), refl))
  done-leaves w (Ok Complete) t k = needing-leaves (λ t. stepped s.key (complete_of t)) (λ t. (ap Some (complete-carries t), refl))
  done-leaves w (Ok Settle) t k = ranked-leaves w.count w.numbers
  done-leaves w (Ok Key) t k = absurd (k refl)
  done-leaves w (Err e) t k = (refl, refl)

pub others_leave_keys : (w : Words) (s : State) → meaning_of w ≢ Ok Table → meaning_of w ≢ Ok Key → Left s (act_of w s)
unfolding act_of
others_leave_keys w s = done-leaves s w (meaning_of w)
