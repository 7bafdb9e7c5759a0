-- The promises of `next_hand`, asked again and again from where the last hand was closed: it gives the hands of the script, each once and in order (`asked-all`,
-- `asked-script`); it comes to an end (`asking_ends`), after no more hands than the script has bytes (`asked-most`); and a hand of which all lines found room has its
-- entries, no more and no less, at the front of the tape (`whole-tape`). Assumes nothing.
use Prim.Native.Nat.{ℕ, zero, suc, ◌-◌, ◌≤◌, ◌<◌}
use native.Mathlib.Omega.{arith}
use mathlib.Core.Path.{◌≡◌, refl, sym, ap, ◌∙◌, subst}
use mathlib.Core.Logic.{⊎_elim}
use mathlib.Core.Bool.{Bool, true, false, cond}
use mathlib.Core.List.{List, [], ◌∷◌}
use borrow.Author.Tests.{ltb-true, ltb-false, lt-ltb, le-ltb, leb-true}
use lib.Dec.{ltb}
use lib.ListN.{length, take, drop, length-append}
use lib.Seq.{take_at}
use Rattle.commons.proofs.Bools.{either, differ, never}
use Rattle.script.specs.declared.line.Words.{Words}
use Rattle.std.specs.Prelude.{Option, Some, None}
use Rattle.std.specs.Option.{is_some}
use Rattle.keys.specs.declared.HandKey.{HandKey}
use Rattle.keys.specs.Keys.{no_key}
use Rattle.console.specs.declared.act.State.{State}
use Rattle.console.specs.Parts.{over}
use Rattle.console.specs.Play.{at_start}
use Rattle.journal.specs.Lines.{line_words, tape_of}
use Rattle.recorder.specs.declared.recording.Place.{Place}
use Rattle.recorder.specs.declared.recording.HandTaken.{HandTaken}
use Rattle.recorder.specs.declared.recording.Taken.{Taken}
use Rattle.recorder.specs.Entries.{line_of, entries_of, held, is_held}
use Rattle.recorder.specs.Hands.{Recorded, hands_of, script_hands}
use Rattle.recorder.specs.Taking.{next_table, words_from, lines_at, hand_at, taken_at, none_at, taken, tape_taken}
use Rattle.recorder.proofs.LawsAsked.{skips_to, no-hand, next-hand, hand-moves}

-- ---- lines that all find room are all held
all_held : (room : ℕ) (ws : List Words) → length (entries_of ws) ≤ room → held room ws ≡ ws
unfolding held tape_of
all_held room [] h = refl
all_held room (w ∷ ws) h =
    let n = length-append (line_words (line_of w)) (entries_of ws) in
    rw (le-ltb room (length (line_words (line_of w))) (omega (arith, n))) (ap (λ (l : List Words). w ∷ l) (all_held (room - length (line_words (line_of w))) ws (omega (arith, n))))

-- ---- whether a hand was found; its key, its entries, and whether all its lines found room
abbrev pub found : Taken → Bool
found r = is_some r.hand

abbrev pub key_in : Option HandTaken → HandKey
key_in None = no_key
key_in (Some h) = h.key

abbrev pub entries_in : Option HandTaken → ℕ
entries_in None = 0
entries_in (Some h) = h.entries

abbrev pub whole_in : Option HandTaken → Bool
whole_in None = true
whole_in (Some h) = h.is_whole

module _ (script : List ℕ) (at : ℕ) (s : State) where
  abbrev p : Place
  p = next_table script at s

  -- ---- whether a hand was found
  taken_so : (room : ℕ) → found (taken script at s room) ≡ true → (p.at < length script) × (taken script at s room ≡ taken_at script p room)
  unfolding taken
  taken_so room = by (ltb p.at (length script)) refl
    where
      by : (b : Bool) → ltb p.at (length script) ≡ b → found (cond b (taken_at script p room) (none_at p)) ≡ true → (p.at < length script) × (cond b (taken_at script p room) (none_at p) ≡ taken_at script p room)
      by true e f = (ltb-true _ _ e, refl)
      by false e f = absurd (differ false f refl)

  none_so : (room : ℕ) → found (taken script at s room) ≡ false → length script ≤ p.at
  unfolding taken
  none_so room = by (ltb p.at (length script)) refl
    where
      by : (b : Bool) → ltb p.at (length script) ≡ b → found (cond b (taken_at script p room) (none_at p)) ≡ false → length script ≤ p.at
      by true e f = absurd (differ true refl f)
      by false e f = ltb-false _ _ e

  -- the hand that was asked for: what was answered, and its lines
  abbrev pub hand_taken : ℕ → Recorded
  hand_taken room = record { key = key_in (taken script at s room).hand; lines = lines_at script p; ended = (taken script at s room).state }

  -- a hand is found only before the script's end, and the place goes up
  pub asking_within : (room : ℕ) → found (taken script at s room) ≡ true → at < length script
  asking_within room f = omega (arith, (taken_so room f).0, (skips_to script at s).up)

  pub asking_moves : (room : ℕ) → found (taken script at s room) ≡ true → at < (taken script at s room).at
  asking_moves room f = let t = taken_so room f in rw t.1 (hand-moves script at s t.0)

  pub whole-tape : (tape : List ℕ) → found (taken script at s (length tape)) ≡ true → whole_in (taken script at s (length tape)).hand ≡ true
      → take (entries_in (taken script at s (length tape)).hand) (tape_taken script at s tape) ≡ entries_of (lines_at script p)
  unfolding tape_taken is_held
  whole-tape tape f w =
      let t = taken_so (length tape) f in
      let ls : List Words = lines_at script p in
      let room : length (entries_of (lines_at script p)) ≤ length tape = leb-true _ _ (sym (ap (λ (r : Taken). whole_in r.hand) t.1) ∙ w) in
      let hh : held (length tape) (lines_at script p) ≡ lines_at script p = all_held (length tape) (lines_at script p) room in
      let laid : tape_taken script at s tape ≡ over (entries_of (held (length tape) (lines_at script p))) tape = simp (lt-ltb p.at (length script) t.0) in
      (λ i. take (entries_in (t.1 i).hand) (laid i)) ∙ (λ i. take (length (entries_of (hh i))) (over (entries_of (hh i)) tape)) ∙ take_at (entries_of ls) (drop (length (entries_of ls)) tape) (length (entries_of ls)) refl

-- ---- asked again and again
pub data Asked (script : List ℕ) : ℕ → State → List Recorded → Type 0 where
  ends : {at : ℕ} {s : State} (room : ℕ) → found (taken script at s room) ≡ false → Asked script at s []
  hand : {at : ℕ} {s : State} {hs : List Recorded} (room : ℕ) → found (taken script at s room) ≡ true → Asked script (taken script at s room).at (taken script at s room).state hs
      → Asked script at s (hand_taken script at s room ∷ hs)

asked_so : (script : List ℕ) {at : ℕ} {s : State} {hs : List Recorded} → Asked script at s hs → hs ≡ hands_of s (words_from script at)
asked_so script {at} {s} (ends room f) = sym (no-hand script at s (none_so script at s room f))
asked_so script {at} {s} (hand {hs = hs} room f a) =
    let t = taken_so script at s room f in
    let h = hand_at script (next_table script at s) in
    (λ i. record { key = key_in (t.1 i).hand; lines = lines_at script (next_table script at s); ended = (t.1 i).state } ∷ asked_so script a i)
    ∙ (λ i. h ∷ hands_of (t.1 i).state (words_from script (t.1 i).at)) ∙ sym (next-hand script at s t.0)

pub asked-all : (script : List ℕ) (hs : List Recorded) → Asked script 0 at_start.state hs → hs ≡ script_hands script
asked-all script hs a = asked_so script a

pub asked-most : (script : List ℕ) {at : ℕ} {s : State} {hs : List Recorded} → Asked script at s hs → length hs ≤ length script - at
asked-most script (ends room f) = omega arith
asked-most script {at} {s} (hand room f a) = omega (arith, asked-most script a, asking_within script at s room f, asking_moves script at s room f)

-- ---- it comes to an end, whatever room the tape has at each place
module _ (script : List ℕ) (room : ℕ → ℕ) where
  asked_in : (n at : ℕ) (s : State) → length script - at ≤ n → (hs : List Recorded) × Asked script at s hs
  asked_in zero at s h =
      ([], ends (room at) (never (found (taken script at s (room at))) (λ f. let w = asking_within script at s (room at) f in omega arith)))
  asked_in (suc n) at s h =
      ⊎_elim
      (λ (f : (found (taken script at s (room at))) ≡ true).
      let r = asked_in n (taken script at s (room at)).at (taken script at s (room at)).state (omega (arith, asking_within script at s (room at) f, asking_moves script at s (room at) f)) in
      (hand_taken script at s (room at) ∷ r.0, hand (room at) f r.1))
      (λ (f : (found (taken script at s (room at))) ≡ false). ([], ends (room at) f))
      (either (found (taken script at s (room at))))

  pub asking_ends : (at : ℕ) (s : State) → (hs : List Recorded) × Asked script at s hs
  asking_ends at s = asked_in (length script - at) at s (omega arith)

  -- so all hands of the script are given
  pub asked-script : Asked script 0 at_start.state (script_hands script)
  asked-script = let a = asking_ends 0 at_start.state in subst (Asked script 0 at_start.state) (asked-all script a.0 a.1) a.1
