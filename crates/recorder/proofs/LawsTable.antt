-- Laws of the table that stands during a hand: it stands, with the key of the hand and as many seats as its `t` has stacks, until the next hand opens.
-- Assumes nothing.
use Prim.Native.Nat.{ℕ, ◌-◌, ◌≤◌}
use native.Mathlib.Omega.{arith}
use mathlib.Core.Path.{◌≡◌, refl, sym, ap, ◌∙◌, subst}
use Rattle.std.specs.Prelude.{Option, Some, None, Result, Ok, Err}
use Rattle.std.specs.Option.{option_map}
use Rattle.refusals.specs.declared.AddedError.{AddedError}
use mathlib.Core.Logic.{◌≢◌, ⊎_elim}
use mathlib.Core.Bool.{Bool, true, false, cond, ◌&&◌}
use mathlib.Core.List.{List, [], ◌∷◌}
use lib.Dec.{eqb, leb}
use lib.ListN.{length, take}
use Rattle.commons.proofs.Bools.{either, pick, tested}
use Rattle.refusals.specs.Rows.{Verdict, judge}
use Rattle.refusals.proofs.Numbers.{numbered}
use Rattle.refusals.proofs.Rows.{answer-of}
use Rattle.keys.specs.declared.HandKey.{HandKey}
use Rattle.keys.specs.Keys.{no_key}
use Rattle.table.specs.declared.GameState.{GameState}
use Rattle.table.specs.declared.BetStep.{BetStep}
use Rattle.table.specs.declared.TableStep.{TableStep}
use Rattle.table.specs.Answers.{done, step_by, sound_rows}
use Rattle.table.specs.Pay.{bet_rows, bet_of, folded_step, fold_of}
use Rattle.table.specs.Rounds.{is_round, advanced_step, advance_of, completed_step, complete_of}
use Rattle.builder.specs.declared.GameStateBuilder.{GameStateBuilder}
use Rattle.builder.specs.declared.BuildStep.{BuildStep}
use Rattle.builder.specs.Build.{seats_of, built_of, build_rows, built_step, not_built, build_of}
use Rattle.settlement.specs.declared.Settled.{Settled}
use Rattle.settlement.specs.Settlement.{refused, settle_rows, someone, settled_of}
use Rattle.script.specs.declared.line.Words.{Words}
use Rattle.script.specs.declared.line.Line.{Line}
use Rattle.script.specs.declared.line.Line.TheVariants.{Table, Advance, Fold, Bet, Forced, Complete, Settle, Key}
use Rattle.script.specs.Line.{meaning_of}
use Rattle.console.specs.declared.act.State.{State}
use Rattle.console.specs.declared.act.Act.{Act}
use Rattle.console.specs.Act.{act_number, bad_line, needing, stepped, wagered, settled, ranked_at, ranked, opened, act_of}
use Rattle.console.proofs.LawsAct.{needing_by}
use Rattle.console.specs.Act as console
use Rattle.console.specs.Opening.{chips_of, amounts_from, told, opening_of}
use Rattle.console.proofs.LawsKey.{table_takes_key, others_leave_keys}
use Rattle.console.proofs.LawsOpening.{counted, opens_not}
use Rattle.console.proofs.LawsOpening.{opens as opens-it}
use Rattle.recorder.specs.Hands.{after, opens, goes_in, state_until}
use Rattle.recorder.proofs.LawsLine.{opens_so, table-refused, goes_so}
use Rattle.recorder.proofs.LawsApart.{left_out}

-- ---- a step leaves the seats
module _ (t : GameState) where
  abbrev seats : ℕ
  seats = t.num_players

  step-seats : (s : TableStep) → s.table.num_players ≡ seats → (step_by (sound_rows t) t s).table.num_players ≡ seats
  step-seats s e = answer-of s _ (λ (r : TableStep). r.table.num_players ≡ seats) (judge (sound_rows t)) (λ v. e) (λ r. refl)

  bet-seats : (a : _) (forced : Bool) → (bet_of t a forced).table.num_players ≡ seats
  unfolding bet_of
  bet-seats a forced = answer-of _ _ (λ (r : BetStep). r.table.num_players ≡ seats) (judge (bet_rows t a forced)) (λ v. refl) (λ r. refl)

  fold-seats : (fold_of t).table.num_players ≡ seats
  unfolding fold_of
  fold-seats = step-seats (folded_step t) refl

  entered-seats : (s : TableStep) → s.table.num_players ≡ seats → (step_by (sound_rows t) t (cond (is_round t.round 11) (done 0 t) s)).table.num_players ≡ seats
  entered-seats s e = step-seats _ (pick (λ (r : TableStep). r.table.num_players ≡ seats) (is_round t.round 11) (done 0 t) s refl e)

  advance-seats : (advance_of t).table.num_players ≡ seats
  unfolding advance_of
  advance-seats = entered-seats (advanced_step t) refl

  complete-seats : (complete_of t).table.num_players ≡ seats
  unfolding complete_of
  complete-seats = entered-seats (completed_step t) refl

  settled-seats : (ranks : List ℕ) → (settled_of t ranks).table.num_players ≡ seats
  unfolding settled_of
  settled-seats ranks = answer-of _ (refused t) (λ (r : Settled). r.table.num_players ≡ seats) (judge (settle_rows t (someone t ranks))) (λ v. refl) (λ r. refl)

-- what is known of the table behind an option of it
module _ {A : Type 0} (f : GameState → A) where
  mapped : (o : Option GameState) (y : A) → option_map f o ≡ Some y → (t : GameState) × (o ≡ Some t) × (f t ≡ y)
  mapped None y e = absurd (let z : ◌≡◌ {A = ℕ} 0 1 = cc in omega arith)
  mapped (Some t) y e = (t, refl, (let same : f t ≡ y = cc in same))

  mapped_at : {o : Option GameState} {t : GameState} {y : A} → o ≡ Some t → option_map f o ≡ Some y → f t ≡ y
  mapped_at {t = t} {y} i e = let m : ◌≡◌ {A = Option A} (Some (f t)) (Some y) = sym (ap (option_map f) i) ∙ e in cc

-- ---- and so does a line that opens no hand
abbrev seats_in : State → Option ℕ
seats_in s = option_map (λ t. t.num_players) s.table

abbrev Seated : State → Act → Type 0
Seated s a = seats_in a.state ≡ seats_in s

module _ (s : State) where
  needing-seats : (f : GameState → Act) → ((t : GameState) → seats_in (f t).state ≡ Some t.num_players) → Seated s (needing s f)
  needing-seats f g = needing_by s f (Seated s) refl (λ t e. rw e (g t))

  ranked-seats : (count : ℕ) (ns : List ℕ) → Seated s (ranked s count ns)
  unfolding ranked
  ranked-seats count ns =
      needing_by s (ranked_at s count ns) (Seated s) refl
      (λ t e. pick (Seated s) (eqb count t.num_players) (settled s.key (settled_of t (take 16 ns))) (bad_line s) (rw e (ap Some (settled-seats t (take 16 ns)))) refl)

  done-seats : (w : Words) (l : Result Line AddedError) → l ≢ Ok Table → Seated s (console.done s w l)
  done-seats w (Ok Table) t = absurd (t refl)
  done-seats w (Ok Advance) t = needing-seats (λ t. stepped s.key (advance_of t)) (λ t. ap Some (advance-seats t))
  done-seats w (Ok Fold) t = needing-seats (λ t. stepped s.key (fold_of t)) (λ t. ap Some (fold-seats t))
  done-seats w (Ok (Bet x)) t = needing-seats (λ t. wagered s.key (bet_of t (chips_of x) false)) (λ t. ap Some (bet-seats t (chips_of x) false))
  done-seats w (Ok (Forced x)) t = needing-seats (λ t. wagered s.key (bet_of t (chips_of x) true)) (λ t. ap Some (bet-seats t (chips_of x) true))
  done-seats w (Ok Complete) t = needing-seats (λ t. stepped s.key (complete_of t)) (λ t. ap Some (complete-seats t))
  done-seats w (Ok Settle) t = ranked-seats w.count w.numbers
  done-seats w (Ok Key) t = refl
  done-seats w (Err e) t = refl

  line-seats : (w : Words) → meaning_of w ≢ Ok Table → Seated s (act_of w s)
  unfolding act_of
  line-seats w = done-seats w (meaning_of w)

-- ---- what stands in a hand: a table, its key and its seats
pub record Standing (k : HandKey) (n : ℕ) (s : State) : Type 0 where
  pub table : GameState
  pub stands : s.table ≡ Some table
  pub key : table.added.key ≡ k
  pub seats : table.num_players ≡ n

-- a line that opens no hand leaves all three
module _ {k : HandKey} {n : ℕ} where
  pub seats-of : {s : State} → Standing k n s → (t : GameState) → s.table ≡ Some t → t.num_players ≡ n
  seats-of h t e = mapped_at (λ t. t.num_players) e (ap (option_map (λ t. t.num_players)) h.stands ∙ ap Some h.seats)

  line-keeps : (w : Words) (s : State) (g : Bool) → opens w s ≡ false → goes_in w s ≡ g → Standing k n s → Standing k n (after w s)
  line-keeps w s true f g h =
      let q = goes_so w s g in
      let t : meaning_of w ≢ Ok Table = λ e. table-refused w s f e q.1 in
      let m = mapped (λ t. t.num_players) (after w s).table h.table.num_players (line-seats s w t ∙ ap (option_map (λ t. t.num_players)) h.stands) in
      let same : m.0.added ≡ h.table.added = mapped_at (λ t. t.added) m.1 ((others_leave_keys w s t q.0).0 ∙ ap (option_map (λ t. t.added)) h.stands) in
      record { table = m.0; stands = m.1; key = (λ i. (same i).key) ∙ h.key; seats = m.2 ∙ h.seats }
  line-keeps w s false f g h =
      let e = left_out no_key w s g in
      record { table = h.table; stands = (λ i. (e i).table) ∙ h.stands; key = h.key; seats = h.seats }

  pub line-stands : (w : Words) (s : State) → opens w s ≡ false → Standing k n s → Standing k n (after w s)
  line-stands w s f h = line-keeps w s (goes_in w s) f refl h

  pub until_keeps : (ws : List Words) (s : State) → Standing k n s → Standing k n (state_until s ws)
  unfolding state_until
  until_keeps [] s h = h
  until_keeps (w ∷ ws) s h = tested (Standing k n) (opens w s) s (state_until (after w s) ws) (λ e. h) (λ f. until_keeps ws (after w s) (line-stands w s f h))

-- ---- the table that an accepted `t` opens
build-seats : (b : GameStateBuilder) → (build_of b).answer ≡ Ok tt → (build_of b).table.num_players ≡ seats_of b
unfolding build_of built_of
build-seats b =
    answer-of (built_step b) not_built (λ (r : BuildStep). r.answer ≡ Ok tt → r.table.num_players ≡ seats_of b) (judge (build_rows b)) (λ v e. refl)
    (λ r e. absurd (let z : ◌≡◌ {A = ℕ} 0 1 = cc in omega arith))

-- the stacks of a line
abbrev pub stacks_in : Words → ℕ
stacks_in w = length (take (w.count - 4) (amounts_from w.numbers))

module _ (w : Words) where
  abbrev Opens : BuildStep → Type 0
  Opens r = r.answer ≡ Ok tt → (w.count ≤ 20) × (r.table.num_players ≡ stacks_in w)

  opening-seats : (key : HandKey) → Opens (opening_of key w.count w.numbers)
  opening-seats key =
      ⊎_elim (λ e. subst Opens (opens-it key w.count w.numbers e) (λ h. ((counted w.count e).1, build-seats (told key w.count w.numbers) h)))
      (λ e. subst Opens (opens_not key w.count w.numbers e) (λ h. absurd (let z : ◌≡◌ {A = ℕ} 0 1 = cc in omega arith))) (either (leb 6 w.count && leb w.count 20))

  module _ (s : State) where
    abbrev Seats : Act → Type 0
    Seats a = act_number a ≡ 0 → (w.count ≤ 20) × (seats_in a.state ≡ Some (stacks_in w))

    opened-seats : (t : GameState) (v : Verdict) → (v ≡ Ok tt → (w.count ≤ 20) × (t.num_players ≡ stacks_in w)) → Seats (opened s (record { answer = v; table = t }))
    opened-seats t (Ok _) q z = ((q refl).0, ap Some (q refl).1)
    opened-seats t (Err r) q z = absurd (numbered r z)

    table-seats : meaning_of w ≡ Ok Table → Seats (act_of w s)
    unfolding act_of
    table-seats e =
        let o = opening_of s.key w.count w.numbers in
        subst (λ (l : Result Line AddedError). Seats (console.done s w l)) (sym e) (opened-seats o.table o.answer (opening-seats s.key))

    pub opens-short : opens w s ≡ true → w.count ≤ 20
    opens-short e = let q = opens_so w s e in (table-seats q.0 q.1).0

    pub opens-stands : opens w s ≡ true → Standing s.key (stacks_in w) (after w s)
    opens-stands e =
        let q = opens_so w s e in
        let u = table_takes_key w s q.0 q.1 in
        record { table = u.0; stands = u.1; key = u.2; seats = mapped_at (λ t. t.num_players) u.1 (table-seats q.0 q.1).1 }
