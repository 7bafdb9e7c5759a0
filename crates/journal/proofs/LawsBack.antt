-- A block that was written passes the tests and reads back as what was written. Assumes nothing.
use Prim.Native.Nat.{ℕ, zero, suc, ◌+◌, ◌*◌, ◌-◌, ◌≤◌, ◌<◌}
use native.Mathlib.Omega.{arith}
use mathlib.Core.Path.{◌≡◌, refl, sym, ap, ◌∙◌}
use mathlib.Core.Bool.{Bool, true, false, ◌||◌}
use mathlib.Core.Logic.{⊎_elim, ◌⊎◌}
use mathlib.Core.List.{List, [], ◌∷◌, ◌++◌, append_assoc}
use borrow.Author.Tests.{eq-eqb, ne_eqb, lt-ltb, le-ltb, le-leb}
use lib.Dec.{eqb, ltb}
use lib.ListN.{length, get_or, drop, drop_of_length-le, length-append, get_or-append, get_or-replicate}
use lib.Seq.{get_or-append-add, drop-cons}
use Rattle.journal.specs.Check.{byte, sum_check, run_check}
use Rattle.commons.specs.Folds.{all_to}
use Rattle.journal.specs.Entry.{two_bytes, four_bytes, two_at, four_at, all_bytes, is_entry}
use Rattle.journal.specs.Block.{is_edition, zeros, head_of, body_of, block_of, title_at, entry_at, entries_from, entries_of, zero_at, entry_fits, entries_fit, block_ok}
use Rattle.journal.specs.declared.block.Title.{Title}
use Rattle.commons.proofs.Order.{lt_or_le}
use Rattle.commons.proofs.Folds.{all_hold}
use Rattle.journal.proofs.LawsPut.{head-long, body_long, all_bytes-long, four_bytes-long, sum-checked, run_checked}

-- four bytes behind others, and in front
four_skip : (xs ys : List ℕ) (j n : ℕ) → n ≡ length xs + j → four_at (xs ++ ys) n ≡ four_at ys j
unfolding four_at
four_skip xs ys j n e =
    let e1 : n + 1 ≡ length xs + (j + 1) = omega arith in
    let e2 : n + 2 ≡ length xs + (j + 2) = omega arith in
    let e3 : n + 3 ≡ length xs + (j + 3) = omega arith in
    rw (e1, e2, e3, e) (rw (get_or-append-add xs ys j 0, get_or-append-add xs ys (j + 1) 0, get_or-append-add xs ys (j + 2) 0, get_or-append-add xs ys (j + 3) 0))

four-first : (w : ℕ) (ys : List ℕ) → four_at (four_bytes w ++ ys) 0 ≡ w
unfolding four_at four_bytes
four-first w ys = omega arith

word_at : (ws ys : List ℕ) (i : ℕ) → i < length ws → four_at (all_bytes ws ++ ys) (4 * i) ≡ get_or ws i 0
unfolding all_bytes
word_at [] ys i h = absurd (omega arith)
word_at (w ∷ ws) ys zero h = rw (append_assoc (four_bytes w) (all_bytes ws) ys) (four-first w (all_bytes ws ++ ys))
word_at (w ∷ ws) ys (suc i) h =
    rw (append_assoc (four_bytes w) (all_bytes ws) ys) (
    four_skip (four_bytes w) (all_bytes ws ++ ys) (4 * i) (4 * suc i) (omega (arith, four_bytes-long w)) ∙ word_at ws ys i (omega arith))

-- what makes a block
pub record Fit (k : Title) (index at-end : ℕ) (ws : List ℕ) : Type 0 where
  pub code : k.key.code < 65536
  pub year : k.key.year < 65536
  pub keyed : k.key.year ≡ 0 → ⊥
  pub hand : k.key.hand < 4294967296
  pub edition : is_edition k.edition ≡ true
  pub below : index < 255
  pub bit : at-end ≤ 1
  pub some : 1 ≤ length ws
  pub most : length ws ≤ 120
  pub full : (at-end ≡ 1) ⊎ (length ws ≡ 120)
  pub entries : (i : ℕ) → i < length ws → is_entry (get_or ws i 0) ≡ true

module _ (k : Title) (index last : ℕ) (ws : List ℕ) where
  abbrev b : List ℕ
  b = block_of k index last ws

  module _ (h : length ws ≤ 120) where
    pub block-long : length b ≡ 512
    unfolding block_of
    block-long = simp (length-append, body_long k index last ws h)

    sum-at : byte b 510 ≡ sum_check b
    unfolding block_of
    sum-at =
        let n = body_long k index last ws h in
        let e : 510 ≡ length (body_of k index last ws) + 0 = omega arith in
        rw (sum-checked (body_of k index last ws) (sum_check (body_of k index last ws) ∷ run_check (body_of k index last ws) ∷ []) n) (
        ap (byte (body_of k index last ws ++ (sum_check (body_of k index last ws) ∷ run_check (body_of k index last ws) ∷ []))) e ∙ get_or-append-add (body_of k index last ws) _ 0 0)

    run_at : byte b 511 ≡ run_check b
    unfolding block_of
    run_at =
        let n = body_long k index last ws h in
        let e : 511 ≡ length (body_of k index last ws) + 1 = omega arith in
        rw (run_checked (body_of k index last ws) (sum_check (body_of k index last ws) ∷ run_check (body_of k index last ws) ∷ []) n) (
        ap (byte (body_of k index last ws ++ (sum_check (body_of k index last ws) ∷ run_check (body_of k index last ws) ∷ []))) e ∙ get_or-append-add (body_of k index last ws) _ 1 0)

    -- behind the entries all is zero up to the check
    rest_at : (n : ℕ) → 16 + 4 * length ws ≤ n → n < 510 → byte b n ≡ 0
    unfolding block_of body_of zeros
    rest_at n l g =
        let xs = head_of k index last (length ws) ++ all_bytes ws in
        let m : length xs ≡ 16 + 4 * length ws = simp (length-append, head-long, all_bytes-long) in
        let e : n ≡ length xs + (n - (16 + 4 * length ws)) = omega arith in
        get_or-append (body_of k index last ws) _ 0 n (omega (arith, body_long k index last ws h))
        ∙ ap (byte (xs ++ zeros (494 - 4 * length ws))) e
        ∙ get_or-append-add xs (zeros (494 - 4 * length ws)) (n - (16 + 4 * length ws)) 0
        ∙ get_or-replicate (494 - 4 * length ws) (n - (16 + 4 * length ws)) 0 0 (omega arith)

    pub entry-back : (i : ℕ) → i < length ws → entry_at b i ≡ get_or ws i 0
    unfolding block_of body_of
    entry-back i g =
        rw (append_assoc (head_of k index last (length ws) ++ all_bytes ws) (zeros (494 - 4 * length ws)) (sum_check (body_of k index last ws) ∷ run_check (body_of k index last ws) ∷ [])) (
        rw (append_assoc (head_of k index last (length ws)) (all_bytes ws) (zeros (494 - 4 * length ws) ++ (sum_check (body_of k index last ws) ∷ run_check (body_of k index last ws) ∷ []))) (
        four_skip (head_of k index last (length ws)) _ (4 * i) (16 + 4 * i) (omega (arith, head-long k index last (length ws))) ∙ word_at ws _ i g))

    entry_zero : (i : ℕ) → length ws ≤ i → i < 120 → entry_at b i ≡ 0
    unfolding four_at
    entry_zero i l g =
        rw (rest_at (16 + 4 * i) (omega arith) (omega arith), rest_at (16 + 4 * i + 1) (omega arith) (omega arith), rest_at (16 + 4 * i + 2) (omega arith) (omega arith), rest_at (16 + 4 * i + 3) (omega arith) (omega arith))

    fits-at : (entries : (i : ℕ) → i < length ws → is_entry (get_or ws i 0) ≡ true) (i : ℕ) → i < 120 → entry_fits (ltb i (length ws)) (entry_at b i) ≡ true
    unfolding entry_fits
    fits-at entries i g =
        ⊎_elim
        (λ (l : i < length ws). simp (lt-ltb i (length ws) l, entry-back i l, entries i l))
        (λ (l : length ws ≤ i). simp (le-ltb i (length ws) l, entry_zero i l g))
        (lt_or_le i (length ws))

  -- the bytes of the head
  pub index_back : byte b 8 ≡ index
  unfolding block_of body_of head_of two_bytes four_bytes
  index_back = refl

  pub last-back : byte b 9 ≡ last
  unfolding block_of body_of head_of two_bytes four_bytes
  last-back = refl

  pub used-back : byte b 10 ≡ length ws
  unfolding block_of body_of head_of two_bytes four_bytes
  used-back = refl

  edition-back : byte b 11 ≡ k.edition
  unfolding block_of body_of head_of two_bytes four_bytes
  edition-back = refl

  head-zero : zero_at b 12 4 ≡ true
  unfolding block_of body_of head_of two_bytes four_bytes zero_at all_to
  head-zero = refl

  code-back : two_at b 0 ≡ k.key.code
  unfolding block_of body_of head_of two_bytes four_bytes two_at
  code-back = omega arith

  year-back : two_at b 2 ≡ k.key.year
  unfolding block_of body_of head_of two_bytes four_bytes two_at
  year-back = omega arith

  hand-back : four_at b 4 ≡ k.key.hand
  unfolding block_of body_of head_of two_bytes four_bytes four_at
  hand-back = omega arith

  pub title-back : title_at b ≡ k
  title-back = λ i. record { key = record { code = code-back i; year = year-back i; hand = hand-back i }; edition = edition-back i }

  entries_from_lem : length ws ≤ 120 → (n i : ℕ) → i + n ≡ length ws → entries_from b i n ≡ drop i ws
  unfolding entries_from
  entries_from_lem h zero i e = sym (drop_of_length-le ws {i = i} (omega arith))
  entries_from_lem h (suc n) i e = rw (entry-back h i (omega arith), drop-cons ws i 0 (omega arith)) (ap (λ (l : List ℕ). get_or ws i 0 ∷ l) (entries_from_lem h n (suc i) (omega arith)))

  pub entries-back : length ws ≤ 120 → entries_of b ≡ ws
  entries-back h = rw used-back (entries_from_lem h (length ws) 0 (omega arith))

  -- what was written passes the tests
  module _ (f : Fit k index last ws) where
    whole-fit : entries_fit b ≡ true
    unfolding entries_fit
    whole-fit = all_hold 120 (λ i. entry_fits (ltb i (byte b 10)) (entry_at b i)) (λ i g. rw used-back (fits-at f.most f.entries i g))

    tail-zero : zero_at b 496 14 ≡ true
    unfolding zero_at
    tail-zero = all_hold 14 (λ i. eqb (byte b (496 + i)) 0) (λ i g. eq-eqb (byte b (496 + i)) 0 (rest_at f.most (496 + i) (omega (arith, f.most)) (omega arith)))

    last_or_full : eqb last 1 || eqb (length ws) 120 ≡ true
    last_or_full = ⊎_elim (λ (e : last ≡ 1). simp (eq-eqb last 1 e)) (λ (e : length ws ≡ 120). rw (eq-eqb (length ws) 120 e) (or-true (eqb last 1))) f.full
      where
        or-true : (t : Bool) → t || true ≡ true
        or-true true = refl
        or-true false = refl

    pub written-ok : block_ok b ≡ true
    unfolding block_ok
    written-ok =
        rw (block-long f.most, year-back, index_back, last-back, used-back, edition-back, head-zero, whole-fit, tail-zero, last_or_full, f.edition) (
        simp (ne_eqb k.key.year 0 f.keyed, lt-ltb index 255 f.below, le-leb last 1 f.bit, le-leb 1 (length ws) f.some, le-leb (length ws) 120 f.most, eq-eqb _ _ (sum-at f.most), eq-eqb _ _ (run_at f.most)))
