-- Laws of a part: its lines one by one, and what is in the buffer after some of them. `Sofar` says what is left to play, not what
-- was played, so that the end of the loop is the part. Assumes nothing.
use Rattle.std.proofs.Common.{◌≡◌, ℕ, ◌+◌, ◌-◌, ◌<◌, ◌≤◌, List, [], ◌++◌, length, take, drop, sym, refl, ap, ◌∙◌, append_assoc, append-nil, arith, take-append-drop, drop_of_length-le, length-take-le, drop-drop, le-ltb, lt-ltb}
use Rattle.commons.specs.Filled.{copied}
use Rattle.commons.proofs.Pasted.{copied_pasted}
use lib.Seq.{paste, take-paste, drop-paste, length-paste}
use Rattle.script.specs.declared.line.Words.{Words}
use Rattle.script.specs.declared.reader.Read.{Read}
use Rattle.script.specs.Split.{lines}
use Rattle.script.specs.Words.{words_of}
use Rattle.script.specs.Read.{line_from, read_at}
use Rattle.script.specs.Text.{text_of}
use Rattle.script.proofs.LawsRead.{lines_from, next_place}
use Rattle.script.proofs.LawsPrint.{text-bytes, text-size}
use Rattle.console.specs.declared.play.Console.{Console}
use Rattle.console.specs.declared.play.Turn.{Turn}
use Rattle.console.specs.Play.{said, after, turn_of}
use Rattle.console.specs.Parts.{part_is, ahead, part_of, part_from, played_of, over}

-- the words of the line at a place
abbrev pub words_at : List ℕ → ℕ → Words
words_at s at = words_of (line_from s at)

module _ (s : List ℕ) (at : ℕ) (c : Console) (room : ℕ) where
  -- nothing is played at the end, nor where there is no room
  pub at-end : length s ≤ at → part_from s at c room ≡ part_is [] at c
  unfolding part_of lines
  at-end h = rw (drop_of_length-le s h)

  pub no_room_lem : at < length s → room < 72 → part_from s at c room ≡ part_is [] at c
  unfolding part_of
  no_room_lem h l = rw (lines_from s at h, lt-ltb room 72 l)

  -- else the line at the place is played first
  pub plays : at < length s → 72 ≤ room
      → part_from s at c room ≡ ahead (said c (words_at s at)) (part_from s (read_at s at).next (after c (words_at s at)) (room - length (said c (words_at s at))))
  unfolding part_of
  plays h l = rw (lines_from s at h, le-ltb room 72 l, next_place s at h)

-- after some lines: n bytes are laid, and the rest of the buffer is as it was
pub record Sofar (s out₀ : List ℕ) (at₀ : ℕ) (c₀ : Console) (out : List ℕ) (at : ℕ) (c : Console) (n : ℕ) : Type 0 where
  pub within : n ≤ length out
  pub long : length out ≡ length out₀
  pub tail : drop n out ≡ drop n out₀
  pub sofar : part_from s at₀ c₀ (length out₀) ≡ ahead (take n out) (part_from s at c (length out₀ - n))

pub begins : (s out₀ : List ℕ) (at₀ : ℕ) (c₀ : Console) → Sofar s out₀ at₀ c₀ out₀ at₀ c₀ 0
begins s out₀ at₀ c₀ = record {
  within = omega arith;
  long = refl;
  tail = refl;
  sofar = let e : length out₀ - 0 ≡ length out₀ = omega arith in rw e refl;
}

-- one line more: it was read at the place, and its turn taken
pub record Next (s : List ℕ) (at : ℕ) (c : Console) (room : ℕ) (read : Read) (turn : Turn) : Type 0 where
  pub here : at < length s
  pub roomy : 72 ≤ room
  pub was_read : read ≡ read_at s at
  pub taken : turn ≡ turn_of c read.words
  pub short : length (said c read.words) ≤ 72

pub one_more : {s : List ℕ} {at : ℕ} {c : Console} {room : ℕ} {read : Read} {turn : Turn} → at < length s → 72 ≤ room → read ≡ read_at s at → turn ≡ turn_of c read.words
    → length (said c read.words) ≤ 72 → Next s at c room read turn
one_more h l r t f = record { here = h; roomy = l; was_read = r; taken = t; short = f }

module _ {s : List ℕ} {at : ℕ} {c : Console} {room : ℕ} {read : Read} {turn : Turn} (x : Next s at c room read turn) where
  abbrev line : List ℕ
  line = said c read.words

  len_is : turn.text.len ≡ length line
  unfolding text_of
  len_is = rw x.taken

  bytes_are : take turn.text.len turn.text.bytes ≡ line
  bytes_are = rw (len_is, x.taken) (text-bytes line)

  laid-short : turn.text.len ≤ 72
  laid-short = omega (arith, len_is, x.short)

  all_there : turn.text.len ≤ length turn.text.bytes
  all_there = rw (len_is, x.taken) (omega (arith, text-size line x.short, x.short))

  words_are : read.words ≡ words_at s at
  unfolding read_at
  words_are = rw x.was_read

  console-is : turn.console ≡ after c read.words
  console-is = rw x.taken

  pub goes-up : at < read.next
  goes-up = rw x.was_read (omega (arith, next_place s at x.here))

  first : part_from s at c room ≡ ahead line (part_from s read.next turn.console (room - turn.text.len))
  first = plays s at c room x.here x.roomy ∙ rw (len_is, console-is, words_are, x.was_read)

module _ {s out₀ : List ℕ} {at₀ : ℕ} {c₀ : Console} {out : List ℕ} {at : ℕ} {c : Console} {n : ℕ} (f : Sofar s out₀ at₀ c₀ out at c n) where
  module _ {read : Read} {turn : Turn} (x : Next s at c (length out - n) read turn) where
    pub fits : n + turn.text.len ≤ length out
    fits = omega (arith, laid-short x, x.roomy, f.within)

    pub goes_on : (out' : List ℕ) → out' ≡ copied 0 n out 0 turn.text.bytes turn.text.len → Sofar s out₀ at₀ c₀ out' read.next turn.console (n + turn.text.len)
    goes_on out' lay =
        let k = turn.text.len in
        let bs = turn.text.bytes in
        let e : out' ≡ paste out n bs k = lay ∙ copied_pasted 0 n out bs k fits (all_there x) in
        let lo : length out' ≡ length out = ap length e ∙ length-paste out n bs k fits (all_there x) in
        let r : length out₀ - n - k ≡ length out₀ - (n + k) = omega arith in
        let q : length out - n ≡ length out₀ - n = omega (arith, f.long) in
        let w : take (n + k) out' ≡ take n out ++ line x =
        ap (take (n + k)) e ∙ take-paste out n bs k f.within (all_there x) ∙ ap (λ (y : List ℕ). take n out ++ y) (bytes_are x) in
        record {
          within = omega (arith, fits);
          long = lo ∙ f.long;
          tail =
              ap (drop (n + k)) e ∙ drop-paste out n bs k f.within (all_there x) ∙ sym (drop-drop k n out) ∙ ap (drop k) f.tail ∙ drop-drop k n out₀;
          sofar = f.sofar ∙ ap (ahead (take n out)) (rw q at (first x)) ∙ rw (r, w) (simp append_assoc);
        }

  -- where it stops
  module _ (stop : part_from s at c (length out₀ - n) ≡ part_is [] at c) where
    all : part_from s at₀ c₀ (length out₀) ≡ part_is (take n out) at c
    all = f.sofar ∙ rw stop (simp append-nil)

    stopped : (record { at = at; console = c; len = n } ≡ played_of (part_from s at₀ c₀ (length out₀))) × (out ≡ over (part_from s at₀ c₀ (length out₀)).bytes out₀)
    stopped = (
      rw (all, length-take-le n out f.within),
      rw (all, length-take-le n out f.within, ← f.tail) (sym (take-append-drop n out)),
    )

  pub ended : length s ≤ at → (record { at = at; console = c; len = n } ≡ played_of (part_from s at₀ c₀ (length out₀))) × (out ≡ over (part_from s at₀ c₀ (length out₀)).bytes out₀)
  ended h = stopped (at-end s at c (length out₀ - n) h)

  pub full : at < length s → length out - n < 72
      → (record { at = at; console = c; len = n } ≡ played_of (part_from s at₀ c₀ (length out₀))) × (out ≡ over (part_from s at₀ c₀ (length out₀)).bytes out₀)
  full h r = stopped (no_room_lem s at c (length out₀ - n) h (omega (arith, f.long)))
