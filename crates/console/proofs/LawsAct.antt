-- Laws of a line and of its turn: what a line asks is what is done, and what is printed is of the line's number and of what stands
-- after it. Assumes nothing.
use Rattle.std.proofs.Common.{◌≡◌, ℕ, ◌≤◌, List, length, take, ◌≢◌, eq-eqb, ne_eqb, sym, refl, ap, ◌∙◌}
use Rattle.std.specs.Prelude.{Option, Some, None, Result, Ok, Err}
use Rattle.refusals.specs.declared.AddedError.{AddedError}
use Rattle.refusals.specs.declared.Refusal.{Refusal}
use Rattle.refusals.specs.Rows.{verdict_number}
use Rattle.table.specs.declared.GameState.{GameState}
use Rattle.settlement.specs.declared.Settled.{Settled}
use Rattle.settlement.specs.Settlement.{settled_of}
use Rattle.script.specs.declared.line.Words.{Words}
use Rattle.script.specs.declared.line.Line.{Line}
use Rattle.script.specs.declared.print.Shown.{Shown}
use Rattle.script.specs.declared.print.Text.{Text}
use Rattle.script.specs.Line.{meaning_of}
use Rattle.script.specs.Print.{line_text}
use Rattle.script.specs.Text.{text_of}
use Rattle.console.specs.declared.act.State.{State}
use Rattle.console.specs.declared.act.Act.{Act}
use Rattle.console.specs.declared.play.Console.{Console}
use Rattle.console.specs.Act.{act_number, verdict_of, on_table, acted, bad_line, where_stands, needing, settled, ranked_at, ranked, done, act_of}
use Rattle.console.specs.Shown.{view_of}
use Rattle.console.specs.Play.{count_up, said, after, turn_of}

pub does : (w : Words) (s : State) {l : Result Line AddedError} {a : Act} → meaning_of w ≡ l → a ≡ done s w l → a ≡ act_of w s
unfolding act_of
does w s e d = d ∙ ap (done s w) (sym e)

-- a line that needs a table, by whether one stands
module _ (s : State) (f : GameState → Act) where
  pub needs_one : s.table ≡ None → needing s f ≡ bad_line s
  unfolding needing
  needs_one e = rw e refl

  pub has_one : (t : GameState) → s.table ≡ Some t → needing s f ≡ f t
  unfolding needing
  has_one t e = rw e refl

  pub needing_by : (P : Act → Type 0) → P (bad_line s) → ((t : GameState) → s.table ≡ Some t → P (f t)) → P (needing s f)
  unfolding needing
  needing_by P b g = go s.table refl
    where
      go : (o : Option GameState) → s.table ≡ o → P (where_stands (bad_line s) f o)
      go None e = b
      go (Some t) e = g t e

-- the number that a step's answer tells is that of the step
pub told-number : {A : Type 0} (a : Result A Refusal) → verdict_number (verdict_of a) ≡ verdict_number a
told-number (Ok k) = refl
told-number (Err r) = refl

-- a settlement whose ranks are as many as the seats; what it gives is not looked at
module _ (s : State) (count : ℕ) (ns : List ℕ) where
  pub ranks : {t : GameState} {rs : List ℕ} {r : Settled} {a : Act} → s.table ≡ Some t → count ≡ t.num_players → rs ≡ take 16 ns
      → r ≡ settled_of t rs → a ≡ acted r.answer (on_table r.table s.key) → a ≡ ranked s count ns
  unfolding ranked
  ranks {t = t} i n e g d =
      let paid : ranked s count ns ≡ settled s.key (settled_of t (take 16 ns)) = has_one s (ranked_at s count ns) t i ∙ rw (eq-eqb count t.num_players n) refl in
      d ∙ ap (settled s.key) (g ∙ ap (settled_of t) e) ∙ sym paid

  pub miscounted : {t : GameState} → s.table ≡ Some t → count ≢ t.num_players → bad_line s ≡ ranked s count ns
  unfolding ranked
  miscounted {t} i n = sym (has_one s (ranked_at s count ns) t i ∙ rw (ne_eqb count t.num_players n) refl)

  pub no_ranks : s.table ≡ None → bad_line s ≡ ranked s count ns
  unfolding ranked
  no_ranks i = sym (needs_one s (ranked_at s count ns) i)

module _ (c : Console) (w : Words) {a : Act} {v : Option Shown} (ea : a ≡ act_of w c.state) (ev : v ≡ view_of a.state) where
  said-is : said c w ≡ line_text c.line_no (act_number a) v
  unfolding said
  said-is = rw (← ea, ← ev)

  pub turn_is : (text : Text) (n : ℕ) → text ≡ text_of (line_text c.line_no (act_number a) v) → n ≡ count_up c.line_no
      → record { text = text; console = record { line_no = n; state = a.state } } ≡ turn_of c w
  unfolding after
  turn_is text n et en = simp (et, en, said-is, ← ea)

  pub said-short : length (line_text c.line_no (act_number a) v) ≤ 72 → length (said c w) ≤ 72
  said-short l = rw said-is l
