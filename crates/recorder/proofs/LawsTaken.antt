-- The next hand as the code takes it: its `t` is found, the lines are laid one by one, and they are the lines that the tape holds. Assumes nothing.
use Prim.Native.Nat.{ℕ, ◌≤◌, ◌<◌}
use mathlib.Core.Path.{◌≡◌, refl, ap, ◌∙◌, subst}
use mathlib.Core.Bool.{true}
use mathlib.Core.List.{List}
use borrow.Author.Tests.{lt-ltb, le-ltb}
use lib.ListN.{length, drop}
use Rattle.script.specs.declared.line.Words.{Words}
use Rattle.script.specs.declared.reader.Read.{Read}
use Rattle.script.specs.Split.{lines}
use Rattle.script.specs.Read.{line_from, read_at}
use Rattle.console.specs.declared.act.State.{State}
use Rattle.console.specs.declared.act.Act.{Act}
use Rattle.console.specs.Act.{act_of}
use Rattle.recorder.specs.declared.recording.Filled.{Filled}
use Rattle.recorder.specs.declared.recording.Place.{Place}
use Rattle.recorder.specs.declared.recording.Taken.{Taken}
use Rattle.recorder.specs.Hands.{after, lines_until}
use Rattle.recorder.specs.Laying.{filled, Taped, taped, laid_line, laid_all}
use Rattle.recorder.specs.Taking.{next_table, words_from, lines_at, closed_at, closed_with, none_at, taken, tape_taken}
use Rattle.recorder.proofs.LawsHands.{Each}
use Rattle.recorder.proofs.LawsHeld.{Kept, all_held}
use Rattle.recorder.proofs.LawsAsked.{opens-there}
use Rattle.recorder.proofs.LawsTakes.{kept-lines}
use Rattle.recorder.proofs.LawsWords.{words_proper, all_proper}

module _ (script : List ℕ) (at : ℕ) (s : State) (tape : List ℕ) where
  abbrev p : Place
  p = next_table script at s

  -- what is promised of the answer and of the tape
  abbrev Takes : Taken → List ℕ → Type 0
  Takes r out = (r ≡ taken script at s (length tape)) × (out ≡ tape_taken script at s tape)

  none-there : length script ≤ p.at → Takes (none_at p) tape
  unfolding taken tape_taken
  none-there h = simp (le-ltb p.at (length script) h) (refl, refl)

  pub none_found : {q : Place} → q ≡ p → length script ≤ q.at → Takes (none_at q) tape
  none_found e = rw e none-there

  module _ (h : p.at < length script) where
    abbrev ls : List Words
    ls = lines_at script p

    all-kept : Each Kept ls
    unfolding read_at
    all-kept =
        let r = read_at script p.at in
        kept-lines p.state r.words (words_from script r.next) (opens-there script at s h) (words_proper (line_from script p.at)) (all_proper (lines (drop r.next script)))

    taken_so : {x : Taped} → x ≡ laid_all (taped (filled 0 true) tape) ls → Takes (closed_with (closed_at script p) p.state.key x.filled) x.tape
    unfolding taken tape_taken
    taken_so e =
        let y = e ∙ all_held ls tape all-kept in
        simp (lt-ltb p.at (length script) h) (λ i. closed_with (closed_at script p) p.state.key (y i).filled, λ i. (y i).tape)

  -- the `t` was read at its place, played and laid, and then the lines that follow
  pub hand-found : {q : Place} {read : Read} {act : Act} {f : Filled} {t out : List ℕ} {r : Taken} → q ≡ p → q.at < length script → read ≡ read_at script q.at → act ≡ act_of read.words q.state
      → f ≡ (laid_line true read.words (taped (filled 0 true) tape)).filled → t ≡ (laid_line true read.words (taped (filled 0 true) tape)).tape
      → r ≡ closed_with (next_table script read.next act.state) q.state.key (laid_all (taped f t) (lines_until act.state (words_from script read.next))).filled
      → out ≡ (laid_all (taped f t) (lines_until act.state (words_from script read.next))).tape → Takes r out
  unfolding laid_all
  hand-found {q} {read} {act} {f} {t} e h d a l m r o =
      let d' : read ≡ read_at script p.at = d ∙ ap (λ (q : Place). read_at script q.at) e in
      let st : act.state ≡ after (read_at script p.at).words p.state = (λ i. (a i).state) ∙ (λ i. after (d' i).words (e i).state) in
      let x : Taped = laid_all (taped f t) (lines_until act.state (words_from script read.next)) in
      let y : x ≡ laid_all (taped (filled 0 true) tape) (lines_at script p) =
      (λ i. laid_all (taped (l i) (m i)) (lines_until act.state (words_from script read.next)))
      ∙ (λ i. laid_all (laid_line true (d' i).words (taped (filled 0 true) tape)) (lines_until (st i) (words_from script (d' i).next))) in
      let z = taken_so (subst (λ (q : Place). q.at < length script) e h) y in
      (r ∙ (λ i. closed_with (next_table script (d' i).next (st i)) (e i).state.key x.filled) ∙ z.0, o ∙ z.1)
