-- A hand that was written reads back as what was written. Assumes nothing.
use Prim.Native.Nat.{ℕ, zero, suc, ◌+◌, ◌*◌, ◌-◌, ◌≤◌, ◌<◌, ◌/◌, ◌%◌}
use native.Mathlib.Omega.{arith}
use mathlib.Core.Path.{◌≡◌, refl, sym, ap, ◌∙◌}
use mathlib.Core.Bool.{Bool, true, false, cond, ◌&&◌, ◌||◌}
use mathlib.Core.Logic.{⊎_elim, ◌⊎◌, inl, inr}
use mathlib.Core.List.{List, [], ◌∷◌}
use borrow.Author.Tests.{eq-eqb, ne_eqb, le-leb, eqb-true, eqb-false}
use lib.Dec.{eqb}
use lib.ListN.{length, get_or, drop, drop_of_length-le, length-drop}
use lib.Seq.{get_or-take, get_or-drop, drop-cons, length-take-le, take_all}
use Rattle.journal.specs.Check.{byte}
use Rattle.journal.specs.Entry.{two_at, four_at, is_letter, is_number, is_entry}
use Rattle.journal.specs.Block.{is_edition, bit, title_at, entry_at}
use Rattle.journal.specs.Lines.{allowed, name_after, count_after, stacks_after, spelt, spells}
use Rattle.journal.specs.Hand.{block_count, piece, block_at, hand_bytes, same_title, block_says, block_fits, blocks_in, blocks_fit, word_in, word_count, words_from, words_of, hand_ok, reads}
use Rattle.journal.specs.declared.block.Title.{Title}
use Rattle.std.specs.Prelude.{Ok}
use Rattle.commons.proofs.Order.{lt_or_le}
use Rattle.commons.proofs.Folds.{all_hold}
use Rattle.commons.proofs.Bools.{and_both}
use Rattle.keys.specs.Keys.{key_of}
use Rattle.keys.proofs.Laws.{same_self}
use Rattle.journal.proofs.LawsBack.{Fit, index_back, last-back, used-back, title-back, entry-back, written-ok}
use Rattle.journal.proofs.LawsHand.{joined-long}
use Rattle.journal.proofs.LawsWrites.{at_long, take-most}
use Rattle.journal.proofs.LawsReads.{piece_byte}
use Rattle.journal.proofs.LawsJoined.{joined-piece}

-- ---- what spells a hand is entries
or_left : (a b c : Bool) → a || (b && c) ≡ true → a || b ≡ true
or_left true b c e = refl
or_left false b c e = (and_both b c e).0

allowed-entry : (l count stacks w : ℕ) → allowed l count stacks w ≡ true → is_entry w ≡ true
unfolding allowed is_entry
allowed-entry l count stacks w e = or_left (is_number w) (is_letter w) _ e

spelt-entries : (ws : List ℕ) (l count stacks : ℕ) → spelt l count stacks ws ≡ true → (i : ℕ) → i < length ws → is_entry (get_or ws i 0) ≡ true
unfolding spelt
spelt-entries [] l count stacks e i h = absurd (omega arith)
spelt-entries (w ∷ ws) l count stacks e zero h = allowed-entry l count stacks w (and_both _ _ e).0
spelt-entries (w ∷ ws) l count stacks e (suc i) h = spelt-entries ws (name_after l w) (count_after count w) (stacks_after l count stacks w) (and_both (allowed l count stacks w) _ e).1 i (omega arith)

table-entry : (w : ℕ) → w ≡ 116 → is_entry w ≡ true
unfolding is_entry is_number is_letter
table-entry w e = rw e

pub spells-entries : (ws : List ℕ) → spells ws ≡ true → (i : ℕ) → i < length ws → is_entry (get_or ws i 0) ≡ true
unfolding spells
spells-entries [] e i h = absurd (omega arith)
spells-entries (w ∷ ws) e zero h = table-entry w (eqb-true w 116 (and_both _ _ e).0)
spells-entries (w ∷ ws) e (suc i) h = spelt-entries ws 116 0 0 (and_both (eqb w 116) _ e).1 i (omega arith)

pub spells-some : (ws : List ℕ) → spells ws ≡ true → 1 ≤ length ws
unfolding spells
spells-some [] e = absurd (let z : ◌≡◌ {A = ℕ} 0 1 = cc in omega arith)
spells-some (w ∷ ws) e = omega arith

pub bit-most : (t : Bool) → bit t ≤ 1
bit-most true = omega arith
bit-most false = omega arith

pub same-title : (k : Title) → same_title k k ≡ true
unfolding same_title
same-title k = simp (same_self k.key, eq-eqb k.edition k.edition refl)

-- what stands in block 0 stands in the whole
pub two-whole : (b : List ℕ) (i j : ℕ) → j + 2 ≤ 512 → two_at (piece 512 b i) j ≡ two_at b (512 * i + j)
unfolding two_at
two-whole b i j h =
    let e : 512 * i + j + 1 ≡ 512 * i + (j + 1) = omega arith in
    rw (e, piece_byte b i j (omega arith), piece_byte b i (j + 1) (omega arith))

pub four-whole : (b : List ℕ) (i j : ℕ) → j + 4 ≤ 512 → four_at (piece 512 b i) j ≡ four_at b (512 * i + j)
unfolding four_at
four-whole b i j h =
    let e1 : 512 * i + j + 1 ≡ 512 * i + (j + 1) = omega arith in
    let e2 : 512 * i + j + 2 ≡ 512 * i + (j + 2) = omega arith in
    let e3 : 512 * i + j + 3 ≡ 512 * i + (j + 3) = omega arith in
    rw (e1, e2, e3, piece_byte b i j (omega arith), piece_byte b i (j + 1) (omega arith), piece_byte b i (j + 2) (omega arith), piece_byte b i (j + 3) (omega arith))

pub title-whole : (b : List ℕ) → title_at (piece 512 b 0) ≡ title_at b
title-whole b = λ i. record { key = key_of (two-whole b 0 0 (omega arith) i) (two-whole b 0 2 (omega arith) i) (four-whole b 0 4 (omega arith) i); edition = byte-whole i }
  where
    byte-whole : byte (piece 512 b 0) 11 ≡ byte b 11
    byte-whole = piece_byte b 0 11 (omega arith)

-- entry i of a hand stands in its block
pub word-whole : (b : List ℕ) (i : ℕ) → word_in b i ≡ entry_at (piece 512 b (i / 120)) (i % 120)
unfolding word_in
word-whole b i =
    let e : 512 * (i / 120) + 16 + 4 * (i % 120) ≡ 512 * (i / 120) + (16 + 4 * (i % 120)) = omega arith in
    rw e (sym (four-whole b (i / 120) (16 + 4 * (i % 120)) (omega arith)))

-- what the writer is given
pub record Kept (k : Title) (ws : List ℕ) : Type 0 where
  pub code : k.key.code < 65536
  pub year : k.key.year < 65536
  pub keyed : k.key.year ≡ 0 → ⊥
  pub hand : k.key.hand < 4294967296
  pub edition : is_edition k.edition ≡ true
  pub lines : spells ws ≡ true
  pub most : length ws ≤ 30600

module _ (k : Title) (ws : List ℕ) (t : Kept k ws) where
  abbrev n : ℕ
  n = block_count (length ws)

  abbrev b : List ℕ
  b = hand_bytes k ws

  some : 1 ≤ length ws
  some = spells-some ws t.lines

  hand-long : length b ≡ 512 * n
  unfolding hand_bytes
  hand-long = joined-long (block_at k ws n) 512 n (λ i h. at_long k ws n i)

  pub block-is : (i : ℕ) → i < n → piece 512 b i ≡ block_at k ws n i
  unfolding hand_bytes
  block-is i h = joined-piece (block_at k ws n) 512 n i h (λ j g. at_long k ws n j) (λ j g. let e = at_long k ws n j in omega arith)

  blocks_are : blocks_in b ≡ n
  blocks_are = let e = hand-long in omega arith

  -- the piece of the tape that a block holds
  piece-long : (i : ℕ) → i < n → length (piece 120 ws i) ≡ cond (eqb (i + 1) n) (length ws - 120 * i) 120
  piece-long i h =
      ⊎_elim
      (λ (l : i + 1 < n). rw (ne_eqb (i + 1) n (λ e. omega arith)) (length-take-le 120 (drop (120 * i) ws) (rw (length-drop (120 * i) ws) (omega arith))))
      (λ (l : n ≤ i + 1). let e : i + 1 ≡ n = omega arith in rw (eq-eqb (i + 1) n e) (ap length (take_all 120 (drop (120 * i) ws) (rw (length-drop (120 * i) ws) (omega arith))) ∙ length-drop (120 * i) ws))
      (lt_or_le (i + 1) n)

  piece-fit : (i : ℕ) → i < n → Fit k i (bit (eqb (i + 1) n)) (piece 120 ws i)
  piece-fit i h = record {
    code = t.code;
    year = t.year;
    keyed = t.keyed;
    hand = t.hand;
    edition = t.edition;
    below = omega (arith, t.most);
    bit = bit-most (eqb (i + 1) n);
    some = at_least (eqb (i + 1) n) refl;
    most = take-most 120 (drop (120 * i) ws);
    full = last (eqb (i + 1) n) refl;
    entries = λ j g. rw (at j g) (spells-entries ws t.lines (120 * i + j) (inside j g));
  }
    where
      at_least : (u : Bool) → eqb (i + 1) n ≡ u → 1 ≤ length (piece 120 ws i)
      at_least true e = rw (piece-long i h, e) (omega (arith, some, eqb-true (i + 1) n e))
      at_least false e = rw (piece-long i h, e) (omega arith)

      last : (u : Bool) → eqb (i + 1) n ≡ u → (bit (eqb (i + 1) n) ≡ 1) ⊎ (length (piece 120 ws i) ≡ 120)
      last true e = inl (rw e)
      last false e = inr (rw (piece-long i h, e))

      short : (j : ℕ) → j < length (piece 120 ws i) → j < 120
      short j g = omega (arith, take-most 120 (drop (120 * i) ws))

      at : (j : ℕ) → j < length (piece 120 ws i) → get_or (piece 120 ws i) j 0 ≡ get_or ws (120 * i + j) 0
      at j g = get_or-take 120 (drop (120 * i) ws) j 0 (short j g) ∙ get_or-drop (120 * i) ws j 0

      before : eqb (i + 1) n ≡ false → i + 1 < n
      before e = ⊎_elim (λ (l : i + 1 < n). l) (λ (l : n ≤ i + 1). absurd (eqb-false (i + 1) n e (omega arith))) (lt_or_le (i + 1) n)

      inside : (j : ℕ) → j < length (piece 120 ws i) → 120 * i + j < length ws
      inside j g = inside-at (eqb (i + 1) n) refl
        where
          inside-at : (u : Bool) → eqb (i + 1) n ≡ u → 120 * i + j < length ws
          inside-at true e = let p : length (piece 120 ws i) ≡ length ws - 120 * i = rw e at (piece-long i h) in omega arith
          inside-at false e = let p : length (piece 120 ws i) ≡ 120 = rw e at (piece-long i h) in let q : i + 1 < n = before e in omega arith

  title-is : title_at b ≡ k
  unfolding block_at
  title-is = sym (title-whole b) ∙ ap title_at (block-is 0 (omega (arith, some))) ∙ title-back k 0 (bit (eqb (0 + 1) n)) (piece 120 ws 0)

  says_so : (i : ℕ) → i < n → block_fits k n i (block_at k ws n i) ≡ true
  unfolding block_fits block_says block_at
  says_so i h =
      let last = bit (eqb (i + 1) n) in
      let ps = piece 120 ws i in
      rw (written-ok k i last ps (piece-fit i h), index_back k i last ps, last-back k i last ps, title-back k i last ps) (
      simp (eq-eqb i i refl, eq-eqb last last refl, same-title k))

  all_fit : blocks_fit b ≡ true
  unfolding blocks_fit
  all_fit = all_hold (blocks_in b) (λ i. block_fits (title_at b) (blocks_in b) i (piece 512 b i)) (λ i h. one i (rw blocks_are at h))
    where
      one : (i : ℕ) → i < n → block_fits (title_at b) (blocks_in b) i (piece 512 b i) ≡ true
      one i h = rw (title-is, blocks_are, block-is i h) (says_so i h)

  count-is : word_count b ≡ length ws
  unfolding word_count block_at
  count-is =
      let h : n - 1 < n = omega (arith, some) in
      let last = bit (eqb (n - 1 + 1) n) in
      let e : n - 1 + 1 ≡ n = omega (arith, some) in
      let p : length (piece 120 ws (n - 1)) ≡ length ws - 120 * (n - 1) = rw (eq-eqb (n - 1 + 1) n e) at (piece-long (n - 1) h) in
      let u : byte b (512 * (n - 1) + 10) ≡ length (piece 120 ws (n - 1)) =
      sym (piece_byte b (n - 1) 10 (omega arith)) ∙ ap (λ (l : List ℕ). byte l 10) (block-is (n - 1) h) ∙ used-back k (n - 1) last (piece 120 ws (n - 1)) in
      rw blocks_are (omega (arith, some))

  word-is : (i : ℕ) → i < length ws → word_in b i ≡ get_or ws i 0
  unfolding block_at
  word-is i h =
      let q = i / 120 in
      let g : i / 120 < n = omega arith in
      let last = bit (eqb (i / 120 + 1) n) in
      let ps = piece 120 ws (i / 120) in
      let e : 120 * (i / 120) + i % 120 ≡ i = omega arith in
      word-whole b i ∙ ap (λ (l : List ℕ). entry_at l (i % 120)) (block-is (i / 120) g)
      ∙ entry-back k (i / 120) last ps (take-most 120 (drop (120 * (i / 120)) ws)) (i % 120) (in_piece (eqb (i / 120 + 1) n) refl g)
      ∙ get_or-take 120 (drop (120 * (i / 120)) ws) (i % 120) 0 (omega arith) ∙ get_or-drop (120 * (i / 120)) ws (i % 120) 0 ∙ ap (λ (j : ℕ). get_or ws j 0) e
    where
      in_piece : (u : Bool) → eqb (i / 120 + 1) n ≡ u → i / 120 < n → i % 120 < length (piece 120 ws (i / 120))
      in_piece true e g = let p : length (piece 120 ws (i / 120)) ≡ length ws - 120 * (i / 120) = rw e at (piece-long (i / 120) g) in omega arith
      in_piece false e g = let p : length (piece 120 ws (i / 120)) ≡ 120 = rw e at (piece-long (i / 120) g) in omega arith

  words-from : (m i : ℕ) → i + m ≡ length ws → words_from b i m ≡ drop i ws
  unfolding words_from
  words-from zero i e = sym (drop_of_length-le ws {i = i} (omega arith))
  words-from (suc m) i e = rw (word-is i (omega arith), drop-cons ws i 0 (omega arith)) (ap (λ (l : List ℕ). get_or ws i 0 ∷ l) (words-from m (suc i) (omega arith)))

  pub words_are : words_of b ≡ ws
  words_are = rw count-is (words-from (length ws) 0 (omega arith))

  pub hand-ok : hand_ok b ≡ true
  unfolding hand_ok
  hand-ok =
      let w : length b % 512 ≡ 0 = let e = hand-long in omega arith in
      let s : 1 ≤ n = omega (arith, some) in
      rw (eq-eqb (length b % 512) 0 w, blocks_are, le-leb 1 n s, all_fit, words_are, t.lines)

  pub reads-hand : reads b ≡ Ok (record { title = k; blocks = n; entries = length ws })
  unfolding reads
  reads-hand = rw (hand-ok, title-is, blocks_are, count-is)
