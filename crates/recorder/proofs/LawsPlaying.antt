-- Laws of a hand that is played line by line from its bytes: what is left to play comes to the same from each place that is passed. Assumes nothing.
use Prim.Native.Nat.{ℕ, ◌+◌, ◌≤◌, ◌<◌}
use native.Mathlib.Numerals.{add-one}
use native.Mathlib.Omega.{arith}
use mathlib.Core.Path.{◌≡◌, sym, ap, ◌∙◌}
use mathlib.Core.List.{List, ◌∷◌}
use borrow.Author.Tests.{eq-eqb, ne_eqb}
use Rattle.refusals.specs.declared.JournalError.{JournalError}
use Rattle.std.specs.Prelude.{Ok, Err}
use Rattle.refusals.specs.declared.Refusal.TheVariants.{Journal}
use Rattle.keys.specs.Keys.{no_key}
use Rattle.script.specs.declared.line.Words.{Words}
use Rattle.console.specs.declared.act.State.{State}
use Rattle.console.specs.declared.act.Act.{Act}
use Rattle.console.specs.Act.{act_number, act_of}
use Rattle.journal.specs.declared.hand.HandHead.{HandHead}
use Rattle.journal.specs.declared.reading.LineRead.{LineRead}
use Rattle.journal.specs.Hand.{reads}
use Rattle.journal.specs.Reading.{line_read}
use Rattle.recorder.specs.declared.replaying.Replayed.{Replayed}
use Rattle.recorder.specs.Hands.{answered, after}
use Rattle.recorder.specs.Replay.{replayed, played_on, fresh_with, replay_of, lines_in, replay_read, replay_bytes}
use Rattle.journal.proofs.LawsLeft.{At, left, count-is, at_first, left-first, left-none, at_next, left-next}
use Rattle.journal.proofs.GivenLines.{moves}

-- ---- one line of some
accepted-first : (n : ℕ) (s : State) (w : Words) (ws : List Words) → answered w s ≡ 0 → played_on n s (w ∷ ws) ≡ played_on (n + 1) (after w s) ws
unfolding played_on
accepted-first n s w ws z = rw (eq-eqb (answered w s) 0 z, add-one n)

refused-first : (n : ℕ) (s : State) (w : Words) (ws : List Words) → (answered w s ≡ 0 → ⊥) → played_on n s (w ∷ ws) ≡ replayed (act_of w s).answer n s
unfolding played_on
refused-first n s w ws z = rw (ne_eqb (answered w s) 0 z)

-- ---- after so many lines
pub record Playing (b : List ℕ) (h : HandHead) (s : State) (at lines : ℕ) : Type 0 where
  pub place : At b h.entries at
  pub same : played_on lines s (left b h.entries at) ≡ replay_of h.title.key (lines_in b)
  pub few : lines ≤ at

module _ (b : List ℕ) (h : HandHead) (e : reads b ≡ Ok h) where
  pub begins : {s : State} → s ≡ fresh_with h.title.key → Playing b h s 0 0
  begins f = record { place = at_first b h e; same = (λ i. played_on 0 (f i) (left-first b h e i)); few = omega arith }

  module _ {s : State} {at lines : ℕ} (p : Playing b h s at lines) where
    pub ends : h.entries ≤ at → replayed (Ok tt) lines s ≡ replay_of h.title.key (lines_in b)
    unfolding played_on
    ends n = sym (ap (played_on lines s) (left-none b h e at n)) ∙ p.same

    module _ (l : at < h.entries) {read : LineRead} {act : Act} (r : read ≡ line_read b at) (a : act ≡ act_of read.words s) where
      here : left b h.entries at ≡ read.words ∷ left b h.entries read.next
      here = left-next b h e at l p.place ∙ (λ i. (sym r i).words ∷ left b h.entries (sym r i).next)

      pub goes-up : at < read.next
      goes-up = rw r (moves b at (omega (arith, count-is b h e))).0

      pub stops : (act_number act ≡ 0 → ⊥) → replayed act.answer lines s ≡ replay_of h.title.key (lines_in b)
      stops n = (λ i. replayed (a i).answer lines s) ∙ sym (refused-first lines s read.words (left b h.entries read.next) (λ z. n ((λ i. act_number (a i)) ∙ z))) ∙ sym (ap (played_on lines s) here) ∙ p.same

      pub goes_on : act_number act ≡ 0 → Playing b h act.state read.next (lines + 1)
      goes_on z = record {
        place = rw r (at_next b h e at l p.place);
        same =
            (λ i. played_on (lines + 1) (a i).state (left b h.entries read.next)) ∙ sym (accepted-first lines s read.words (left b h.entries read.next) (sym (λ i. act_number (a i)) ∙ z))
            ∙ sym (ap (played_on lines s) here) ∙ p.same;
        few = omega (arith, goes-up, p.few);
      }

-- ---- by what the bytes read as
pub not-read : (b : List ℕ) {e : JournalError} {s : State} → reads b ≡ Err e → s ≡ fresh_with no_key → replayed (Err (Journal e)) 0 s ≡ replay_bytes b
unfolding replay_bytes replay_read
not-read b {e = e} r f = (λ i. replayed (Err (Journal e)) 0 (f i)) ∙ ap (replay_read b) (sym r)

pub was_read : (b : List ℕ) {h : HandHead} {x : Replayed} → reads b ≡ Ok h → x ≡ replay_of h.title.key (lines_in b) → x ≡ replay_bytes b
unfolding replay_bytes replay_read
was_read b r e = e ∙ ap (replay_read b) (sym r)
