-- Laws of the lines that follow a `t`, laid one by one: what is left to lay comes to the same from each place that is passed. Assumes nothing.
use Prim.Native.Nat.{ℕ, ◌≤◌}
use mathlib.Core.Path.{◌≡◌, refl, sym, ap, ◌∙◌}
use mathlib.Core.Bool.{Bool, true, false, cond, not, ◌&&◌}
use mathlib.Core.List.{List, [], ◌∷◌}
use lib.Dec.{eqb}
use lib.ListN.{length}
use Rattle.keys.specs.declared.HandKey.{HandKey}
use Rattle.script.specs.declared.line.Words.{Words}
use Rattle.script.specs.declared.reader.Read.{Read}
use Rattle.script.specs.Ascii.{is}
use Rattle.script.specs.Words.{words_of}
use Rattle.script.specs.Read.{line_from}
use Rattle.script.proofs.LawsRead.{lines_from}
use Rattle.console.specs.declared.act.State.{State}
use Rattle.console.specs.declared.act.Act.{Act}
use Rattle.console.specs.Act.{act_number}
use Rattle.recorder.specs.declared.recording.Filled.{Filled}
use Rattle.recorder.specs.Hands.{goes_in, lines_until}
use Rattle.recorder.specs.Laying.{Taped, taped, laid_line, laid_all}
use Rattle.recorder.specs.Taking.{place, next_table, words_from, closed_with}
use Rattle.recorder.proofs.LawsTaking.{no_more, at-end, Line, opening, words_are, state-is, opening-is, stops-here, goes_on}

-- the lines of the hand that are left from a place on
abbrev pub lines_left : List ℕ → ℕ → State → List Words
lines_left script at s = lines_until s (words_from script at)

-- whether a line goes in, by its letter and its answer
abbrev pub going : Read → Act → Bool
going read act = not (is read.words.letter "k") && eqb (act_number act) 0

-- ---- one line
laid_one : (g : Bool) (w : Words) (ws : List Words) (x : Taped) → laid_all x (cond g (w ∷ ws) ws) ≡ laid_all (laid_line g w x) ws
unfolding laid_all laid_line
laid_one true w ws x = refl
laid_one false w ws x = refl

module _ {script : List ℕ} {at : ℕ} {s : State} {read : Read} {act : Act} (l : Line script at s read act) where
  abbrev w : Words
  w = words_of (line_from script at)

  going-is : going read act ≡ goes_in w s
  unfolding goes_in
  going-is = rw (l.played, words_are l)

  left_one : lines_left script at s ≡ cond (opening read act) [] (cond (going read act) (read.words ∷ lines_left script read.next act.state) (lines_left script read.next act.state))
  unfolding lines_until
  left_one = rw (lines_from script at l.here, opening-is l, going-is, words_are l, state-is l, l.was_read)

  none_here : opening read act ≡ true → lines_left script at s ≡ []
  none_here o = left_one ∙ rw o

  laid-here : opening read act ≡ false → (x : Taped) → laid_all x (lines_left script at s) ≡ laid_all (laid_line (going read act) read.words x) (lines_left script read.next act.state)
  laid-here o x = ap (laid_all x) (left_one ∙ rw o refl) ∙ laid_one (going read act) read.words (lines_left script read.next act.state) x

none-at-end : (script : List ℕ) (at : ℕ) (s : State) → length script ≤ at → lines_left script at s ≡ []
unfolding lines_until
none-at-end script at s h = rw (no_more script at h)

-- ---- after some lines
pub record Filling (script tape₀ : List ℕ) (at₀ : ℕ) (s₀ : State) (f₀ : Filled) (tape : List ℕ) (at : ℕ) (s : State) (f : Filled) : Type 0 where
  pub same : next_table script at s ≡ next_table script at₀ s₀
  pub laid : laid_all (taped f tape) (lines_left script at s) ≡ laid_all (taped f₀ tape₀) (lines_left script at₀ s₀)
  pub long : length tape ≡ length tape₀

pub begins : (script tape : List ℕ) (at : ℕ) (s : State) (f : Filled) → Filling script tape at s f tape at s f
begins script tape at s f = record { same = refl; laid = refl; long = refl }

module _ {script tape₀ : List ℕ} {at₀ : ℕ} {s₀ : State} {f₀ : Filled} {tape : List ℕ} {at : ℕ} {s : State} {f : Filled} (x : Filling script tape₀ at₀ s₀ f₀ tape at s f) where
  module _ {read : Read} {act : Act} (l : Line script at s read act) where
    pub fills_on : {goes : Bool} {g : Filled} {out : List ℕ} → opening read act ≡ false → goes ≡ going read act → g ≡ (laid_line goes read.words (taped f tape)).filled
        → out ≡ (laid_line goes read.words (taped f tape)).tape → length out ≡ length tape → Filling script tape₀ at₀ s₀ f₀ out read.next act.state g
    fills_on {goes} {g} {out} o e d t n =
        let y : taped g out ≡ laid_line (going read act) read.words (taped f tape) = (λ i. taped (d i) (t i)) ∙ ap (λ (b : Bool). laid_line b read.words (taped f tape)) e in
        record {
          same = sym (goes_on l o) ∙ x.same;
          laid = ap (λ (y : Taped). laid_all y (lines_left script read.next act.state)) y ∙ sym (laid-here l o (taped f tape)) ∙ x.laid;
          long = n ∙ x.long;
        }

    pub closes : (key : HandKey) → opening read act ≡ true
        → (closed_with (place at s) key f ≡ closed_with (next_table script at₀ s₀) key (laid_all (taped f₀ tape₀) (lines_left script at₀ s₀)).filled) × (tape ≡ (laid_all (taped f₀ tape₀) (lines_left script at₀ s₀)).tape)
    unfolding laid_all
    closes key o =
        let p : place at s ≡ next_table script at₀ s₀ = sym (stops-here l o) ∙ x.same in
        let y : taped f tape ≡ laid_all (taped f₀ tape₀) (lines_left script at₀ s₀) = sym (ap (laid_all (taped f tape)) (none_here l o)) ∙ x.laid in
        (λ i. closed_with (p i) key (y i).filled, λ i. (y i).tape)

  pub ends : (key : HandKey) → length script ≤ at
      → (closed_with (place at s) key f ≡ closed_with (next_table script at₀ s₀) key (laid_all (taped f₀ tape₀) (lines_left script at₀ s₀)).filled) × (tape ≡ (laid_all (taped f₀ tape₀) (lines_left script at₀ s₀)).tape)
  unfolding laid_all
  ends key h =
      let p : place at s ≡ next_table script at₀ s₀ = sym (at-end script at s h) ∙ x.same in
      let y : taped f tape ≡ laid_all (taped f₀ tape₀) (lines_left script at₀ s₀) = sym (ap (laid_all (taped f tape)) (none-at-end script at s h)) ∙ x.laid in
      (λ i. closed_with (p i) key (y i).filled, λ i. (y i).tape)
