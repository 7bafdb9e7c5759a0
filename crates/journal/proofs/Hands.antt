-- The promises of a hand: the reader accepts exactly what the writer gives, and both say the same of it. Assumes nothing.
use Prim.Native.Nat.{ℕ, ◌+◌, ◌*◌, ◌-◌, ◌≤◌, ◌<◌, ◌/◌, ◌%◌}
use native.Mathlib.Omega.{arith}
use mathlib.Core.Path.{◌≡◌, refl, sym, ap, ◌∙◌}
use mathlib.Core.Bool.{Bool, true, false, cond, not, ◌&&◌, ◌||◌}
use mathlib.Core.Logic.{⊎_elim}
use mathlib.Core.List.{List}
use borrow.Author.Tests.{ne_eqb, eqb-false, le-ltb, ltb-false}
use lib.Dec.{eqb, ltb}
use lib.ListN.{length, get_or, get_or-eq_default}
use Rattle.journal.specs.Check.{byte}
use Rattle.keys.specs.Keys.{is_key}
use Rattle.journal.specs.Block.{is_edition, title_at}
use Rattle.journal.specs.Lines.{Line, spells, lines_ok, tape_of, lines_of}
use Rattle.journal.specs.Hand.{block_count, piece, hand_bytes, writes, blocks_in, word_count, word_in, words_of, hand_ok, reads}
use Rattle.journal.specs.declared.block.Title.{Title}
use Rattle.refusals.specs.declared.JournalError.TheVariants.{BadJournal, NotKept}
use Rattle.journal.specs.declared.hand.HandHead.{HandHead}
use Rattle.std.specs.Prelude.{Ok, Err}
use Rattle.commons.proofs.Bools.{and_both, or_neither, turned}
use Rattle.commons.proofs.Order.{lt_or_le}
use Rattle.journal.proofs.LawsBlock.{ok-year, ok-index, ok-edition}
use Rattle.journal.proofs.LawsImage.{two-small, four-small}
use Rattle.journal.proofs.LawsHand.{words_long, words-at}
use Rattle.journal.proofs.LawsSpelt.{lines_spell, lines-back, spells-lines, spells-tape}
use Rattle.journal.proofs.LawsTrip.{Kept, reads-hand, words_are}
use Rattle.journal.proofs.LawsUnique.{one-hand, some, spelled, block-ok, number_is, title-is, total-is, bounds, blocks_are}

-- a key within its bits
pub record KeyFits (k : Title) : Type 0 where
  pub code : k.key.code < 65536
  pub year : k.key.year < 65536
  pub hand : k.key.hand < 4294967296

-- ---- what the writer takes
pub kept-writes : (k : Title) (ws : List ℕ) → Kept k ws → writes k ws ≡ Ok (block_count (length ws))
unfolding writes
kept-writes k ws t = simp (t.edition, t.lines, ne_eqb k.key.year 0 t.keyed, le-ltb 30600 (length ws) t.most)

pub writes_kept : (k : Title) (ws : List ℕ) (n : ℕ) → KeyFits k → writes k ws ≡ Ok n → Kept k ws × (n ≡ block_count (length ws))
unfolding writes
writes_kept k ws n f e = lines (is_edition k.edition && spells ws) refl e
  where
    key : (u : Bool) → not (is_key k.key) || ltb 30600 (length ws) ≡ u → is_edition k.edition && spells ws ≡ true → cond u (Err NotKept) (Ok (block_count (length ws))) ≡ Ok n → Kept k ws × (n ≡ block_count (length ws))
    key true g l e = absurd (let z : ◌≡◌ {A = ℕ} 0 1 = cc in omega arith)
    key false g l e =
        let p = or_neither (not (is_key k.key)) (ltb 30600 (length ws)) g in
        let q = and_both (is_edition k.edition) (spells ws) l in
        let y = turned (eqb k.key.year 0) true (turned (is_key k.key) false p.0) in
        (record { code = f.code; year = f.year; keyed = eqb-false k.key.year 0 y; hand = f.hand; edition = q.0; lines = q.1; most = ltb-false 30600 (length ws) p.1 }, cc)

    lines : (u : Bool) → is_edition k.edition && spells ws ≡ u → cond u (cond (not (is_key k.key) || ltb 30600 (length ws)) (Err NotKept) (Ok (block_count (length ws)))) (Err BadJournal) ≡ Ok n → Kept k ws × (n ≡ block_count (length ws))
    lines true l e = key (not (is_key k.key) || ltb 30600 (length ws)) refl l e
    lines false l e = absurd (let z : ◌≡◌ {A = ℕ} 0 1 = cc in omega arith)

-- ---- what was written reads back
pub round_trip : (k : Title) (ws : List ℕ) (n : ℕ) → KeyFits k → writes k ws ≡ Ok n
    → (reads (hand_bytes k ws) ≡ Ok (record { title = k; blocks = n; entries = length ws })) × (words_of (hand_bytes k ws) ≡ ws)
round_trip k ws n f e =
    let t = writes_kept k ws n f e in
    (reads-hand k ws t.0 ∙ rw t.1, words_are k ws t.0)

-- ---- what reads was written
pub read_ok : (b : List ℕ) (h : HandHead) → reads b ≡ Ok h → (hand_ok b ≡ true) × (record { title = title_at b; blocks = blocks_in b; entries = word_count b } ≡ h)
unfolding reads
read_ok b h e = at (hand_ok b) refl e
  where
    at : (u : Bool) → hand_ok b ≡ u → cond u (Ok (record { title = title_at b; blocks = blocks_in b; entries = word_count b })) (Err BadJournal) ≡ Ok h → (hand_ok b ≡ true) × (record { title = title_at b; blocks = blocks_in b; entries = word_count b } ≡ h)
    at true q e = (q, cc)
    at false q e = absurd (let z : ◌≡◌ {A = ℕ} 0 1 = cc in omega arith)

module _ (b : List ℕ) (small : (i : ℕ) → byte b i < 256) where
  pub key_fits : KeyFits (title_at b)
  key_fits = record { code = two-small b small 0; year = two-small b small 2; hand = four-small b small 4 }

  module _ (ok : hand_ok b ≡ true) where
    pub read_kept : Kept (title_at b) (words_of b)
    read_kept =
        let s = some b small ok in
        let h : blocks_in b - 1 < blocks_in b = omega arith in
        let p = piece 512 b (blocks_in b - 1) in
        let i : byte (piece 512 b (blocks_in b - 1)) 8 ≡ blocks_in b - 1 = number_is b small ok (blocks_in b - 1) h in
        let l : byte (piece 512 b (blocks_in b - 1)) 8 < 255 = ok-index (piece 512 b (blocks_in b - 1)) (block-ok b small ok (blocks_in b - 1) h) in
        let w = words_long b (word_count b) 0 in
        let c = total-is b small ok in
        let u = bounds b small ok in
        record {
          code = two-small b small 0;
          year = two-small b small 2;
          keyed = λ z. ok-year (piece 512 b 0) (block-ok b small ok 0 s) (ap (λ (m : Title). m.key.year) (title-is b small ok 0 s) ∙ z);
          hand = four-small b small 4;
          edition = ap is_edition (sym (ap (λ (m : Title). m.edition) (title-is b small ok 0 s))) ∙ ok-edition (piece 512 b 0) (block-ok b small ok 0 s);
          lines = spelled b small ok;
          most = omega arith;
        }

  pub one_image : (h : HandHead) → reads b ≡ Ok h
      → (writes h.title (words_of b) ≡ Ok h.blocks) × (b ≡ hand_bytes h.title (words_of b)) × (length (words_of b) ≡ h.entries)
  one_image h e =
      let q = read_ok b h e in
      let ok = q.0 in
      rw (sym q.1) (
        kept-writes (title_at b) (words_of b) (read_kept ok) ∙ ap Ok (blocks_are b small ok),
        one-hand b small ok,
        words_long b (word_count b) 0,
      )

words_small : (b : List ℕ) → ((i : ℕ) → byte b i < 256) → (i : ℕ) → get_or (words_of b) i 0 < 4294967296
unfolding word_in
words_small b small i =
    ⊎_elim
    (λ (l : i < word_count b). rw (words-at b (word_count b) i l) (four-small b small (512 * (i / 120) + 16 + 4 * (i % 120))))
    (λ (l : word_count b ≤ i). rw (get_or-eq_default (words_of b) 0 {n = i} (omega (arith, words_long b (word_count b) 0))) (omega arith))
    (lt_or_le i (word_count b))

-- ---- the same of lines: a hand of lines is written, and reads back as the same lines; what reads is the hand of its lines
pub lines_trip : (k : Title) (ls : List Line) → KeyFits k → (k.key.year ≡ 0 → ⊥) → is_edition k.edition ≡ true → lines_ok ls ≡ true → length (tape_of ls) ≤ 30600
    → (reads (hand_bytes k (tape_of ls)) ≡ Ok (record { title = k; blocks = block_count (length (tape_of ls)); entries = length (tape_of ls) })) × (lines_of (words_of (hand_bytes k (tape_of ls))) ≡ ls)
lines_trip k ls f y v e m =
    let t : Kept k (tape_of ls) = record { code = f.code; year = f.year; keyed = y; hand = f.hand; edition = v; lines = lines_spell ls e; most = m } in
    (reads-hand k (tape_of ls) t, ap lines_of (words_are k (tape_of ls) t) ∙ lines-back ls e)

pub lines_image : (b : List ℕ) → ((i : ℕ) → byte b i < 256) → (h : HandHead) → reads b ≡ Ok h
    → (lines_ok (lines_of (words_of b)) ≡ true) × (b ≡ hand_bytes h.title (tape_of (lines_of (words_of b))))
lines_image b small h e =
    let q = read_ok b h e in
    let s = spelled b small q.0 in
    let i = one_image b small h e in
    (spells-lines (words_of b) (words_small b small) s, i.1 ∙ ap (hand_bytes h.title) (sym (spells-tape (words_of b) s)))
