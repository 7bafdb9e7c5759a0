-- The promises of `put_line`, called again and again, each line behind the entries that are used: the tape holds the entries of these lines, no more and no
-- less (`filled-tape`); in an edition that is known the writer refuses them with 27 exactly when they are no hand (`filled-bad`, `filled-bad-only`); and a
-- hand that it writes of them reads back as the same lines, which `line_at` gives one by one (`filled_trip`, `filled-given`). Assumes nothing.
use Prim.Native.Nat.{ℕ, ◌+◌, ◌*◌, ◌≤◌}
use native.Mathlib.Omega.{arith}
use mathlib.Core.Path.{◌≡◌, refl, sym, ap, ◌∙◌, subst}
use mathlib.Core.Bool.{Bool, true, false, cond, not, ◌&&◌}
use mathlib.Core.List.{List, [], ◌∷◌, ◌++◌, map}
use borrow.Author.Tests.{ltb-false}
use lib.Dec.{ltb}
use lib.ListN.{length, take, drop, length-append, length-map}
use lib.Seq.{take_at, length-take-le}
use Rattle.commons.proofs.Bools.{or_neither}
use Rattle.refusals.specs.declared.JournalError.TheVariants.{BadJournal}
use Rattle.script.specs.declared.line.Words.{Words}
use Rattle.journal.specs.Block.{is_edition}
use Rattle.journal.specs.Lines.{Line, all_small, spells, lines_ok, line_words, tape_of, lines_of}
use Rattle.journal.specs.Hand.{block_count, hand_bytes, writes, words_of, reads}
use Rattle.journal.specs.Reading.{as_played}
use Rattle.journal.specs.Tape.{line_given, line_ok, no_room, put_line, tape_after}
use Rattle.journal.specs.declared.block.Title.{Title}
use Rattle.std.specs.Prelude.{Ok, Err}
use Rattle.journal.specs.declared.laying.NotLaid.TheVariants.{Denied, NoRoom}
use Rattle.journal.proofs.LawsSpelt.{Sized, AllSized, letter-of, letter_in, lines_spell, sized-back}
use Rattle.journal.proofs.LawsTape.{one_more}
use Rattle.journal.proofs.Hands.{KeyFits, kept-writes, round_trip}
use Rattle.journal.proofs.Refusing.{lines-bad, lines-bad-only}
use Rattle.journal.proofs.GivenLines.{Given, given-all, given-hand}

-- ---- one line
module _ (t : List ℕ) (at l : ℕ) (ns : List ℕ) (used : ℕ) (e : put_line (length t) at l ns ≡ Ok used) where
  put_so : (line_ok l ns ≡ true) × (no_room (length t) at (length ns) ≡ false) × (used ≡ at + 1 + length ns)
  unfolding put_line
  put_so = by (line_ok l ns) (no_room (length t) at (length ns)) refl refl e
    where
      by : (k r : Bool) → line_ok l ns ≡ k → no_room (length t) at (length ns) ≡ r → cond k (cond r (Err NoRoom) (Ok (at + 1 + length ns))) (Err (Denied BadJournal)) ≡ Ok used
          → (line_ok l ns ≡ true) × (no_room (length t) at (length ns) ≡ false) × (used ≡ at + 1 + length ns)
      by true false p q e = (p, q, cc)
      by true true p q e = absurd (let z : ◌≡◌ {A = ℕ} 0 1 = cc in omega arith)
      by false r p q e = absurd (let z : ◌≡◌ {A = ℕ} 0 1 = cc in omega arith)

  inside : at ≤ length t
  unfolding no_room
  inside = ltb-false (length t) at (or_neither (ltb (length t) at) _ put_so.1).0

  -- the entries before, and those of the line
  abbrev laid : List ℕ
  laid = take at t ++ line_words (line_given l ns)

  laid-long : length laid ≡ used
  laid-long = length-append (take at t) (line_words (line_given l ns)) ∙ omega (arith, length-take-le at t inside, length-map ns (λ n. n * 65536), put_so.2)

  front : take used (tape_after at l ns t) ≡ laid
  unfolding tape_after
  front = simp (put_so.0, put_so.1) (take_at laid (drop (at + 1 + length ns) t) used laid-long)

  -- behind the entries of some lines stand those of one line more
  pub one-put : (ls : List Line) → take at t ≡ tape_of ls → take used (tape_after at l ns t) ≡ tape_of (ls ++ (line_given l ns ∷ []))
  one-put ls h = front ∙ ap (λ (ws : List ℕ). ws ++ line_words (line_given l ns)) h ∙ sym (one_more ls (line_given l ns))

  put-long : length (take used (tape_after at l ns t)) ≡ used
  put-long = ap length front ∙ laid-long

  -- a letter that is taken is a byte above 0
  put-sized : all_small ns ≡ true → Sized (line_given l ns)
  unfolding line_ok
  put-sized s = let i = letter_in l (letter-of l (length ns) (length ns) put_so.0).0 in (omega arith, omega arith, s)

-- where no line is laid the tape is as it was
pub not-put : (t : List ℕ) (at l : ℕ) (ns : List ℕ) → ((used : ℕ) → put_line (length t) at l ns ≡ Ok used → ⊥) → tape_after at l ns t ≡ t
unfolding put_line tape_after
not-put t at l ns n = by (line_ok l ns) (no_room (length t) at (length ns)) n
  where
    by : (k r : Bool) → ((used : ℕ) → cond k (cond r (Err NoRoom) (Ok (at + 1 + length ns))) (Err (Denied BadJournal)) ≡ Ok used → ⊥)
        → cond (k && not r) (take at t ++ line_words (line_given l ns) ++ drop (at + 1 + length ns) t) t ≡ t
    by true false n = absurd (n (at + 1 + length ns) refl)
    by true true n = refl
    by false r n = refl

-- ---- line by line: the entries used, the tape, and the lines that were put, each of numbers that have 16 bits
pub data Filled : ℕ → List ℕ → List Line → Type 0 where
  fresh : (t : List ℕ) → Filled 0 t []
  put : {at : ℕ} {t : List ℕ} {ls : List Line} (l : ℕ) (ns : List ℕ) (used : ℕ) → all_small ns ≡ true → put_line (length t) at l ns ≡ Ok used → Filled at t ls
      → Filled used (tape_after at l ns t) (ls ++ (line_given l ns ∷ []))

sized-more : (ls : List Line) (m : Line) → AllSized ls → Sized m → AllSized (ls ++ (m ∷ []))
sized-more [] m a s = (s, tt)
sized-more (l ∷ ls) m a s = (a.0, sized-more ls m a.1 s)

pub filled-tape : {at : ℕ} {t : List ℕ} {ls : List Line} → Filled at t ls → take at t ≡ tape_of ls
unfolding tape_of
filled-tape (fresh t) = refl
filled-tape (put {at = at} {t = t} {ls = ls} l ns used s e f) = one-put t at l ns used e ls (filled-tape f)

pub filled-long : {at : ℕ} {t : List ℕ} {ls : List Line} → Filled at t ls → length (take at t) ≡ at
filled-long (fresh t) = refl
filled-long (put {at = at} {t = t} l ns used s e f) = put-long t at l ns used e

pub filled-sized : {at : ℕ} {t : List ℕ} {ls : List Line} → Filled at t ls → AllSized ls
filled-sized (fresh t) = tt
filled-sized (put {at = at} {t = t} {ls = ls} l ns used s e f) = sized-more ls (line_given l ns) (filled-sized f) (put-sized t at l ns used e s)

-- ---- written and read
module _ {at : ℕ} {t : List ℕ} {ls : List Line} (f : Filled at t ls) (k : Title) where
  pub filled-bad : lines_ok ls ≡ false → writes k (take at t) ≡ Err BadJournal
  filled-bad e = ap (writes k) (filled-tape f) ∙ lines-bad k ls (filled-sized f) e

  pub filled-bad-only : is_edition k.edition ≡ true → writes k (take at t) ≡ Err BadJournal → lines_ok ls ≡ false
  filled-bad-only v e = lines-bad-only k ls (filled-sized f) v (ap (writes k) (sym (filled-tape f)) ∙ e)

  pub filled-writes : KeyFits k → (k.key.year ≡ 0 → ⊥) → is_edition k.edition ≡ true → lines_ok ls ≡ true → at ≤ 30600 → writes k (take at t) ≡ Ok (block_count at)
  filled-writes b y v e m =
      let s : spells (take at t) ≡ true = ap spells (filled-tape f) ∙ lines_spell ls e in
      kept-writes k (take at t) (record { code = b.code; year = b.year; keyed = y; hand = b.hand; edition = v; lines = s; most = omega (arith, filled-long f) })
      ∙ ap (λ (n : ℕ). Ok (block_count n)) (filled-long f)

  module _ (n : ℕ) (b : KeyFits k) (e : writes k (take at t) ≡ Ok n) where
    pub filled_trip : (reads (hand_bytes k (take at t)) ≡ Ok (record { title = k; blocks = n; entries = at })) × (lines_of (words_of (hand_bytes k (take at t))) ≡ ls)
    filled_trip =
        let r = round_trip k (take at t) n b e in
        (r.0 ∙ (λ i. Ok (record { title = k; blocks = n; entries = filled-long f i })), ap lines_of (r.1 ∙ filled-tape f) ∙ sized-back ls (filled-sized f))

    -- the lines that were put are given, and no others
    pub filled-given : Given (hand_bytes k (take at t)) 0 (map as_played ls)
    filled-given = subst (λ (ms : List Line). Given (hand_bytes k (take at t)) 0 (map as_played ms)) filled_trip.1 (given-hand (hand_bytes k (take at t)) _ filled_trip.0)

    pub filled-given-only : (ws : List Words) → Given (hand_bytes k (take at t)) 0 ws → ws ≡ map as_played ls
    filled-given-only ws g = given-all (hand_bytes k (take at t)) _ filled_trip.0 ws g ∙ ap (map as_played) filled_trip.1
