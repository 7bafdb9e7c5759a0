-- A table that stands between two lines is sound: it was built so, and every line keeps it so. Assumes nothing.
use Rattle.std.proofs.Common.{◌≡◌, ℕ, true, false, ◌&&◌, eqb, leb, List, [], ◌∷◌, length, take, refl, subst, ⊎_elim, arith}
use Rattle.std.specs.Prelude.{Some, Result, Ok, Err}
use Rattle.refusals.specs.declared.AddedError.{AddedError}
use Rattle.commons.proofs.Bools.{either, pick}
use Rattle.refusals.specs.Rows.{Verdict, judge}
use Rattle.refusals.proofs.Rows.{answer-of}
use Rattle.keys.specs.declared.HandKey.{HandKey}
use Rattle.keys.specs.Keys.{no_key}
use Rattle.table.specs.declared.GameState.{GameState}
use Rattle.table.specs.Sound.{sound_of}
use Rattle.table.specs.Pay.{bet_of, fold_of}
use Rattle.table.specs.Rounds.{advance_of, complete_of}
use Rattle.table.proofs.LawsSound.{bet-sound, folded-sound, advanced_sound, completed_sound}
use Rattle.builder.specs.declared.BuildStep.{BuildStep}
use Rattle.builder.proofs.LawsRows.{build-sound}
use Rattle.settlement.specs.declared.Settled.{Settled}
use Rattle.settlement.specs.Settlement.{refused, settle_rows, someone, settled_of}
use Rattle.script.specs.declared.line.Words.{Words}
use Rattle.script.specs.declared.line.Line.{Line}
use Rattle.script.specs.declared.line.Line.TheVariants.{Table, Advance, Fold, Bet, Forced, Complete, Settle, Key}
use Rattle.script.specs.Line.{meaning_of}
use Rattle.script.specs.Split.{lines}
use Rattle.script.specs.Words.{words_of}
use Rattle.console.specs.declared.act.State.{State}
use Rattle.console.specs.declared.act.Act.{Act}
use Rattle.console.specs.Opening.{chips_of, told, opening_of}
use Rattle.console.specs.Act.{on_table, bad_line, needing, stepped, wagered, settled, ranked_at, ranked, opened, done, act_of}
use Rattle.console.proofs.LawsAct.{needing_by}
use Rattle.console.specs.Ending.{state_after, end_of}
use Rattle.console.specs.Play.{at_start}
use Rattle.console.proofs.LawsOpening.{opens, opens_not}

abbrev pub Sound : State → Type 0
Sound s = (t : GameState) → s.table ≡ Some t → sound_of t ≡ true

-- of a table that was put
put-sound : (u : GameState) (k : HandKey) → sound_of u ≡ true → Sound (on_table u k)
put-sound u k q t e = let same : u ≡ t = cc in subst (λ (x : GameState). sound_of x ≡ true) same q

-- ---- a table that a line opens
abbrev Builds : BuildStep → Type 0
Builds r = r.answer ≡ Ok tt → sound_of r.table ≡ true

opening-sound : (key : HandKey) (count : ℕ) (ns : List ℕ) → Builds (opening_of key count ns)
opening-sound key count ns =
    ⊎_elim (λ e. subst Builds (opens key count ns e) (build-sound (told key count ns)))
    (λ e. subst Builds (opens_not key count ns e) (λ h. absurd (let z : ◌≡◌ {A = ℕ} 0 1 = cc in omega arith))) (either (leb 6 count && leb count 20))

opened-sound : (s : State) (t : GameState) (a : Verdict) → Sound s → (a ≡ Ok tt → sound_of t ≡ true) → Sound (opened s (record { answer = a; table = t })).state
opened-sound s t (Ok _) p q = put-sound t no_key (q refl)
opened-sound s t (Err r) p q = p

-- ---- a line that needs a table
module _ (s : State) (p : Sound s) where
  needing-sound : (f : GameState → Act) → ((t : GameState) → sound_of t ≡ true → Sound (f t).state) → Sound (needing s f).state
  needing-sound f q = needing_by s f (λ (a : Act). Sound a.state) p (λ t e. q t (p t e))

  settled-sound : (t : GameState) (ranks : List ℕ) → sound_of t ≡ true → sound_of (settled_of t ranks).table ≡ true
  unfolding settled_of
  settled-sound t ranks e = answer-of _ (refused t) (λ (r : Settled). sound_of r.table ≡ true) (judge (settle_rows t (someone t ranks))) (λ v. e) (λ r. e)

  ranked-sound : (count : ℕ) (ns : List ℕ) → Sound (ranked s count ns).state
  unfolding ranked
  ranked-sound count ns =
      needing-sound (ranked_at s count ns)
      (λ t e. pick (λ (a : Act). Sound a.state) (eqb count t.num_players) (settled s.key (settled_of t (take 16 ns))) (bad_line s)
      (put-sound (settled_of t (take 16 ns)).table s.key (settled-sound t (take 16 ns) e)) p)

  done-sound : (w : Words) (l : Result Line AddedError) → Sound (done s w l).state
  done-sound w (Ok Table) = opened-sound s _ (opening_of s.key w.count w.numbers).answer p (opening-sound s.key w.count w.numbers)
  done-sound w (Ok Advance) = needing-sound (λ t. stepped s.key (advance_of t)) (λ t e. put-sound _ s.key (advanced_sound t e))
  done-sound w (Ok Fold) = needing-sound (λ t. stepped s.key (fold_of t)) (λ t e. put-sound _ s.key (folded-sound t e))
  done-sound w (Ok (Bet x)) = needing-sound (λ t. wagered s.key (bet_of t (chips_of x) false)) (λ t e. put-sound _ s.key (bet-sound t e (chips_of x) false))
  done-sound w (Ok (Forced x)) = needing-sound (λ t. wagered s.key (bet_of t (chips_of x) true)) (λ t e. put-sound _ s.key (bet-sound t e (chips_of x) true))
  done-sound w (Ok Complete) = needing-sound (λ t. stepped s.key (complete_of t)) (λ t e. put-sound _ s.key (completed_sound t e))
  done-sound w (Ok Settle) = ranked-sound w.count w.numbers
  done-sound w (Ok Key) = p
  done-sound w (Err e) = p

  pub line-sound : (w : Words) → Sound (act_of w s).state
  unfolding act_of
  line-sound w = done-sound w (meaning_of w)

-- ---- and so is the one at a script's end
pub after-sound : (s : State) (ls : List (List ℕ)) → Sound s → Sound (state_after s ls)
unfolding state_after
after-sound s [] p = p
after-sound s (l ∷ ls) p = after-sound (act_of (words_of l) s).state ls (line-sound s p (words_of l))

start-sound : Sound at_start.state
unfolding at_start
start-sound t e = absurd (let z : ◌≡◌ {A = ℕ} 0 1 = cc in omega arith)

pub end-sound : (script : List ℕ) → Sound (end_of script)
unfolding end_of
end-sound script = pick Sound (leb (length script) 65536) (state_after at_start.state (lines script)) at_start.state (after-sound at_start.state (lines script) start-sound) start-sound
