-- A hand has one image: the bytes that read as a hand are those that are written of its key and entries. Assumes nothing.
use Prim.Native.Nat.{ℕ, zero, suc, ◌+◌, ◌*◌, ◌-◌, ◌≤◌, ◌<◌, ◌/◌, ◌%◌}
use native.Mathlib.Omega.{arith}
use mathlib.Core.Path.{◌≡◌, refl, sym, ap, ◌∙◌}
use mathlib.Core.Bool.{true, ◌&&◌}
use mathlib.Core.Logic.{⊎_elim}
use mathlib.Core.List.{List, [], ◌∷◌}
use borrow.Author.Tests.{ne_eqb, eqb-true, leb-true}
use lib.Dec.{eqb}
use lib.ListN.{length, get_or, take, drop}
use lib.Seq.{take_all}
use Rattle.commons.proofs.Tests.{test_at}
use Rattle.journal.specs.Check.{byte}
use Rattle.journal.specs.Block.{bit, block_of, block_ok, title_at, entries_from, entries_of}
use Rattle.journal.specs.Lines.{spells}
use Rattle.journal.specs.Hand.{block_count, piece, block_at, hand_bytes, same_title, block_says, blocks_in, blocks_fit, word_in, word_count, words_from, words_of, hand_tests, hand_ok}
use Rattle.journal.specs.declared.block.Title.{Title}
use Rattle.commons.proofs.Order.{lt_or_le}
use Rattle.commons.proofs.Bools.{and_both}
use Rattle.keys.specs.Keys.{is_same}
use Rattle.keys.proofs.Laws.{same-is}
use Rattle.journal.proofs.LawsBlock.{ok-some, ok-used, ok-full}
use Rattle.journal.proofs.LawsImage.{one_image}
use Rattle.journal.proofs.LawsHand.{words_long}
use Rattle.journal.proofs.LawsReads.{piece_byte, fits-ok, fits-says, each_fits}
use Rattle.journal.proofs.LawsJoined.{joined_cong, joined-pieces}
use Rattle.journal.proofs.LawsTrip.{four-whole}

same_fields : (k m : Title) → same_title k m ≡ true → k ≡ m
unfolding same_title
same_fields k m e =
    let p = and_both (is_same k.key m.key) (eqb k.edition m.edition) e in
    let q = same-is k.key m.key p.0 in
    let v = eqb-true k.edition m.edition p.1 in
    λ i. record { key = q i; edition = v i }

-- a part of the entries
words-drop : (b : List ℕ) (j s t : ℕ) → j ≤ t → drop j (words_from b s t) ≡ words_from b (s + j) (t - j)
unfolding words_from
words-drop b zero s t h = let e : s + 0 ≡ s = omega arith in let f : t - 0 ≡ t = omega arith in rw (e, f)
words-drop b (suc j) s zero h = absurd (omega arith)
words-drop b (suc j) s (suc t) h =
    let e : s + suc j ≡ suc s + j = omega arith in
    let f : suc t - suc j ≡ t - j = omega arith in
    rw (e, f) (words-drop b j (suc s) t (omega arith))

words_take : (b : List ℕ) (m s t : ℕ) → m ≤ t → take m (words_from b s t) ≡ words_from b s m
unfolding words_from
words_take b zero s t h = refl
words_take b (suc m) s zero h = absurd (omega arith)
words_take b (suc m) s (suc t) h = ap (λ (l : List ℕ). word_in b s ∷ l) (words_take b m (suc s) t (omega arith))

-- the entries of block i are those of the hand from 120 * i on
block_words_lem : (b : List ℕ) (i u j : ℕ) → j + u ≤ 120 → entries_from (piece 512 b i) j u ≡ words_from b (120 * i + j) u
unfolding entries_from words_from word_in
block_words_lem b i zero j h = refl
block_words_lem b i (suc u) j h =
    let q : (120 * i + j) / 120 ≡ i = omega arith in
    let r : (120 * i + j) % 120 ≡ j = omega arith in
    let s : suc (120 * i + j) ≡ 120 * i + suc j = omega arith in
    let e : 512 * i + 16 + 4 * j ≡ 512 * i + (16 + 4 * j) = omega arith in
    rw (four-whole b i (16 + 4 * j) (omega arith), block_words_lem b i u (suc j) (omega arith), q, r, s, e)

module _ (b : List ℕ) (small : (i : ℕ) → byte b i < 256) (ok : hand_ok b ≡ true) where
  passed : (k : ℕ) → get_or (hand_tests b) k true ≡ true
  unfolding hand_ok
  passed k = test_at (hand_tests b) ok k

  abbrev pub n : ℕ
  n = blocks_in b

  abbrev pub k : Title
  k = title_at b

  pub whole : length b ≡ 512 * n
  whole = let e : length b % 512 ≡ 0 = eqb-true (length b % 512) 0 (passed 0) in omega arith

  pub some : 1 ≤ n
  some = leb-true 1 n (passed 1)

  fit : blocks_fit b ≡ true
  fit = passed 2

  pub spelled : spells (words_of b) ≡ true
  spelled = passed 3

  module _ (i : ℕ) (h : i < n) where
    abbrev pub p : List ℕ
    p = piece 512 b i

    pub block-ok : block_ok p ≡ true
    block-ok = fits-ok k n i p (each_fits b fit i h)

    piece-small : (j : ℕ) → byte p j < 256
    piece-small j =
        ⊎_elim
        (λ (l : j < 512). rw (piece_byte b i j l) (small (512 * i + j)))
        (λ (l : 512 ≤ j). rw (past (drop (512 * i) b) j 512 l) (omega arith))
        (lt_or_le j 512)
      where
        past : (l : List ℕ) (j m : ℕ) → m ≤ j → byte (take m l) j ≡ 0
        past l j zero g = refl
        past [] j (suc m) g = refl
        past (x ∷ l) zero (suc m) g = absurd (omega arith)
        past (x ∷ l) (suc j) (suc m) g = past l j m (omega arith)

    says : block_says k n i p ≡ true
    says = fits-says k n i p (each_fits b fit i h)

    pub number_is : byte p 8 ≡ i
    unfolding block_says
    number_is = eqb-true (byte p 8) i (and_both _ _ says).0

    rest : eqb (byte p 9) (bit (eqb (i + 1) n)) && same_title (title_at p) k ≡ true
    unfolding block_says
    rest = (and_both (eqb (byte p 8) i) _ says).1

    last-is : byte p 9 ≡ bit (eqb (i + 1) n)
    last-is = eqb-true (byte p 9) (bit (eqb (i + 1) n)) (and_both _ _ rest).0

    pub title-is : title_at p ≡ k
    title-is = same_fields (title_at p) k (and_both (eqb (byte p 9) (bit (eqb (i + 1) n))) _ rest).1

    -- all but the last are filled
    filled : i + 1 < n → byte p 10 ≡ 120
    filled l =
        let z : byte p 9 ≡ 0 = last-is ∙ ap bit (ne_eqb (i + 1) n (λ e. omega arith)) in
        eqb-true (byte p 10) 120 (rw (ap (λ (x : ℕ). eqb x 1) z) at (ok-full p block-ok))

  pub total-is : word_count b ≡ 120 * (n - 1) + byte (piece 512 b (n - 1)) 10
  unfolding word_count
  total-is = rw (piece_byte b (n - 1) 10 (omega arith))

  pub bounds : (1 ≤ byte (piece 512 b (n - 1)) 10) × (byte (piece 512 b (n - 1)) 10 ≤ 120)
  bounds = let h : n - 1 < n = omega (arith, some) in (ok-some (piece 512 b (n - 1)) (block-ok (n - 1) h), ok-used (piece 512 b (n - 1)) (block-ok (n - 1) h))

  pub blocks_are : block_count (length (words_of b)) ≡ n
  blocks_are = let l = words_long b (word_count b) 0 in let c = total-is in let s = some in let u = bounds in omega arith

  entries_are : (i : ℕ) → i < n → entries_of (piece 512 b i) ≡ piece 120 (words_of b) i
  entries_are i h =
      let z : 120 * i + 0 ≡ 120 * i = omega arith in
      let w : 0 + 120 * i ≡ 120 * i = omega arith in
      let c = total-is in
      let s = some in
      let u = bounds in
      let m : byte (piece 512 b i) 10 ≤ 120 = ok-used (piece 512 b i) (block-ok i h) in
      block_words_lem b i (byte (piece 512 b i) 10) 0 (omega arith)
      ∙ rw (z, words-drop b (120 * i) 0 (word_count b) (omega arith), w) (
      ⊎_elim
      (λ (l : i + 1 < n). rw (filled i h l) (sym (words_take b 120 (120 * i) (word_count b - 120 * i) (omega arith))))
      (λ (l : n ≤ i + 1).
      let e : n - 1 ≡ i = omega arith in
      let f : word_count b - 120 * i ≡ byte (piece 512 b i) 10 = omega (arith, rw e at total-is) in
      sym (take_all 120 (words_from b (120 * i) (word_count b - 120 * i)) (omega (arith, words_long b (word_count b - 120 * i) (120 * i))) ∙ ap (words_from b (120 * i)) f))
      (lt_or_le (i + 1) n))

  block-is : (i : ℕ) → i < n → piece 512 b i ≡ block_at k (words_of b) n i
  unfolding block_at
  block-is i h =
      one_image (piece 512 b i) (piece-small i h) (block-ok i h)
      ∙ λ j. block_of (title-is i h j) (number_is i h j) (last-is i h j) (entries_are i h j)

  pub one-hand : b ≡ hand_bytes k (words_of b)
  unfolding hand_bytes
  one-hand =
      rw blocks_are (
      sym (sym (joined_cong (piece 512 b) (block_at k (words_of b) n) n block-is) ∙ joined-pieces 512 b n ∙ take_all (512 * n) b (let e = whole in omega arith)))
