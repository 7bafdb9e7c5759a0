-- What follows of one image: hands of another key or other lines have other bytes, and blocks that are laid one at a time are those of the hand,
-- be it from a part of what is left, and read as what was laid.
-- Assumes nothing.
use Prim.Native.Nat.{ℕ, zero, suc, ◌+◌, ◌*◌, ◌-◌, ◌≤◌, ◌<◌, min}
use native.Mathlib.Omega.{arith}
use mathlib.Core.Path.{◌≡◌, refl, sym, ap, ◌∙◌}
use mathlib.Core.Bool.{Bool, true, false, cond, not}
use mathlib.Core.Logic.{⊎_elim, ◌⊎◌, inl, inr}
use mathlib.Core.List.{List, [], ◌∷◌, ◌++◌}
use borrow.Author.Tests.{ne_eqb, le-leb, lt-leb, le-ltb, leb-true, leb-false, eqb-false}
use lib.Dec.{eqb, leb, ltb}
use lib.ListN.{length, get_or, take, drop, length-drop, length-append, length-take}
use lib.Seq.{get_or-take, get_or-drop, length-take-le, take-append-le}
use Rattle.commons.proofs.Bools.{and_both, or_neither, turned}
use Rattle.commons.proofs.Folds.{all_hold, all-at}
use Rattle.commons.proofs.Order.{lt_or_le, is-eqb}
use Rattle.keys.specs.Keys.{is_key}
use Rattle.journal.specs.Entry.{is_entry}
use Rattle.journal.specs.Block.{is_edition, bit, entries_of}
use Rattle.journal.specs.Read.{read_of}
use Rattle.journal.specs.Lines.{Line, lines_ok, tape_of, lines_of}
use Rattle.journal.specs.Hand.{block_count, piece, block_at, hand_bytes, writes, reads, words_of}
use Rattle.journal.specs.Lay.{all_entries, block_laid, lays}
use Rattle.journal.specs.declared.block.Title.{Title}
use Rattle.std.specs.Prelude.{Ok}
use Rattle.journal.specs.declared.hand.HandHead.{HandHead}
use Rattle.journal.specs.declared.laying.Laid.TheVariants.{More, Last}
use Rattle.journal.proofs.LawsWrites.{take-most}
use Rattle.journal.proofs.LawsSpelt.{lines-back}
use Rattle.journal.proofs.LawsTrip.{Kept, bit-most, block-is, spells-entries}
use Rattle.journal.proofs.LawsLay.{laid_by, laid-room}
use Rattle.journal.proofs.LawsBack.{Fit}
use Rattle.journal.proofs.Blocks.{reads-back, same_entries}
use Rattle.journal.proofs.Hands.{KeyFits, round_trip}

-- ---- two hands that are written alike are one
abbrev head_of : Title → ℕ → List ℕ → HandHead
head_of k n ws = record { title = k; blocks = n; entries = length ws }

pub same_image : (k m : Title) (ws us : List ℕ) (n p : ℕ) → KeyFits k → KeyFits m → writes k ws ≡ Ok n → writes m us ≡ Ok p
    → hand_bytes k ws ≡ hand_bytes m us → (k ≡ m) × (ws ≡ us)
same_image k m ws us n p f g e h q =
    let r = round_trip k ws n f e in
    let s = round_trip m us p g h in
    let a = sym r.0 ∙ ap reads q ∙ s.0 in
    let t : head_of k n ws ≡ head_of m p us = cc in
    (ap (λ (x : HandHead). x.title) t, sym r.1 ∙ ap words_of q ∙ s.1)

-- and so are their lines
pub same_lines : (k m : Title) (ls ms : List Line) (n p : ℕ) → KeyFits k → KeyFits m → lines_ok ls ≡ true → lines_ok ms ≡ true
    → writes k (tape_of ls) ≡ Ok n → writes m (tape_of ms) ≡ Ok p → hand_bytes k (tape_of ls) ≡ hand_bytes m (tape_of ms) → (k ≡ m) × (ls ≡ ms)
same_lines k m ls ms n p f g a c e h q =
    let s = same_image k m (tape_of ls) (tape_of ms) n p f g e h q in
    (s.0, sym (lines-back ls a) ∙ ap lines_of s.1 ∙ lines-back ms c)

-- ---- one block at a time
most-long : (m : ℕ) (l : List ℕ) → length (take m l) ≤ length l
most-long zero l = omega arith
most-long (suc m) [] = omega arith
most-long (suc m) (x ∷ l) = omega (arith, most-long m l)

module _ (k : Title) (ws : List ℕ) (t : Kept k ws) (i : ℕ) (h : i < block_count (length ws)) where
  abbrev rest : List ℕ
  rest = drop (120 * i) ws

  rest-long : length rest ≡ length ws - 120 * i
  rest-long = length-drop (120 * i) ws

  is_last : leb (length rest) 120 ≡ eqb (i + 1) (block_count (length ws))
  is_last =
      is-eqb (leb (length rest) 120) (i + 1) (block_count (length ws))
      (λ e. le-leb (length rest) 120 (omega (arith, rest-long)))
      (λ e. ⊎_elim (λ l. lt-leb (length rest) 120 l) (λ g. absurd (e (omega (arith, rest-long)))) (lt_or_le 120 (length rest)))

  pub laid-alone : block_laid k i rest ≡ piece 512 (hand_bytes k ws) i
  unfolding block_laid block_at
  laid-alone = rw is_last (sym (block-is k ws t i h))

  good : all_entries (take 120 rest) ≡ true
  unfolding all_entries
  good = all_hold (length (take 120 rest)) (λ j. is_entry (get_or (take 120 rest) j 0)) (λ j l. entry j l)
    where
      entry : (j : ℕ) → j < length (take 120 rest) → is_entry (get_or (take 120 rest) j 0) ≡ true
      entry j l =
          let m = take-most 120 rest in
          let d = most-long 120 rest in
          rw (get_or-take 120 rest j 0 (omega arith), get_or-drop (120 * i) ws j 0) (spells-entries ws t.lines (120 * i + j) (omega (arith, rest-long, d)))

  pub laid-says : lays k i rest ≡ Ok (cond (eqb (i + 1) (block_count (length ws))) Last More)
  unfolding lays
  laid-says =
      let s : leb 1 (length rest) ≡ true = le-leb 1 (length rest) (omega (arith, rest-long)) in
      let m : ltb (30600 - 120 * i) (length rest) ≡ false = le-ltb (30600 - 120 * i) (length rest) (omega (arith, rest-long, t.most)) in
      rw (sym is_last) (simp (t.edition, s, good, ne_eqb k.key.year 0 t.keyed, m))

-- ---- more than 120 entries of what is left of a hand serve as all of it
module _ (k : Title) (i : ℕ) (held more : List ℕ) (h : 120 < length held) where
  all-long : length (held ++ more) ≡ length held + length more
  all-long = length-append held more

  same-front : take 120 (held ++ more) ≡ take 120 held
  same-front = take-append-le 120 held more (omega arith)

  -- the block is the same
  pub held-block : block_laid k i held ≡ block_laid k i (held ++ more)
  unfolding block_laid
  held-block = rw (same-front, lt-leb (length held) 120 h, lt-leb (length (held ++ more)) 120 (omega (arith, all-long)))

  -- and so is the answer, where the blocks from i to 254 hold all that is left
  pub held-says : length (held ++ more) ≤ 30600 - 120 * i → lays k i held ≡ lays k i (held ++ more)
  unfolding lays
  held-says m =
      let l = all-long in
      rw (same-front, lt-leb (length held) 120 h, lt-leb (length (held ++ more)) 120 (omega arith)) (
      rw (le-leb 1 (length held) (omega arith), le-leb 1 (length (held ++ more)) (omega arith)) (
      rw (le-ltb (30600 - 120 * i) (length held) (omega arith), le-ltb (30600 - 120 * i) (length (held ++ more)) m)))

  -- where all that is left is laid, what is held is laid, as the same block
  pub laid-held : lays k i (held ++ more) ≡ Ok More → (lays k i held ≡ Ok More) × (block_laid k i held ≡ block_laid k i (held ++ more))
  laid-held e = (held-says (laid-room k i (held ++ more) false e) ∙ e, held-block)

-- ---- what is laid reads back
entry_of : (ws : List ℕ) → all_entries ws ≡ true → (j : ℕ) → j < length ws → is_entry (get_or ws j 0) ≡ true
unfolding all_entries
entry_of ws e = all-at (length ws) (λ j. is_entry (get_or ws j 0)) e

-- it reads as this block, the last where it is answered so, with the first 120 of what is left as its entries
pub laid-reads : (k : Title) (i : ℕ) (ws : List ℕ) (t : Bool) → KeyFits k → lays k i ws ≡ Ok (cond t Last More)
    → (read_of (block_laid k i ws) ≡ Ok (record { title = k; index = i; last = t; used = min 120 (length ws) })) × (entries_of (block_laid k i ws) ≡ take 120 ws)
unfolding block_laid
laid-reads k i ws t f e =
    let g = laid_by k i ws t e in
    let a = and_both (is_edition k.edition) _ g.0 in
    let b = and_both (leb 1 (length ws)) _ a.1 in
    let o = or_neither (not (is_key k.key)) (ltb (30600 - 120 * i) (length ws)) g.1 in
    let s : 1 ≤ length ws = leb-true 1 (length ws) b.0 in
    let m : length ws ≤ 30600 - 120 * i = laid-room k i ws t e in
    let y = turned (eqb k.key.year 0) true (turned (is_key k.key) false o.0) in
    let n : length (take 120 ws) ≡ min 120 (length ws) = length-take 120 ws in
    let fit : Fit k i (bit t) (take 120 ws) = record {
      code = f.code;
      year = f.year;
      keyed = eqb-false k.key.year 0 y;
      hand = f.hand;
      edition = a.0;
      below = omega arith;
      bit = bit-most t;
      some = omega arith;
      most = take-most 120 ws;
      full = full t g.2;
      entries = entry_of (take 120 ws) b.1;
    } in
    rw g.2 (reads-back k i (bit t) (take 120 ws) fit ∙ (λ j. Ok (record { title = k; index = i; last = bit_is t j; used = n j })), same_entries k i (bit t) (take 120 ws) fit)
  where
    bit_is : (t : Bool) → eqb (bit t) 1 ≡ t
    bit_is true = refl
    bit_is false = refl

    full : (t : Bool) → leb (length ws) 120 ≡ t → (bit t ≡ 1) ⊎ (length (take 120 ws) ≡ 120)
    full true q = inl refl
    full false q = inr (length-take-le 120 ws (omega (arith, leb-false (length ws) 120 q)))
