-- A block has one image: what passes the tests is the block that is written of what is read. Assumes nothing.
use Prim.Native.Nat.{ℕ, zero, suc, ◌+◌, ◌*◌, ◌-◌, ◌≤◌, ◌<◌, ◌/◌, ◌%◌}
use Rattle.commons.proofs.Order.{lt_or_le}
use native.Mathlib.Omega.{arith}
use mathlib.Core.Path.{◌≡◌, refl, sym, ap, ◌∙◌}
use mathlib.Core.Bool.{Bool, true, false}
use mathlib.Core.Logic.{⊎_elim}
use mathlib.Core.List.{List, [], ◌∷◌, ◌++◌}
use borrow.Author.Tests.{eqb-true, le-ltb}
use lib.Dec.{eqb, ltb}
use lib.ListN.{length, take, drop, take-append-drop, drop_of_length-le}
use lib.Seq.{drop-cons, length-take-le}
use Rattle.journal.specs.Check.{byte, sum_check, run_check}
use Rattle.journal.specs.Entry.{two_bytes, four_bytes, two_at, four_at, all_bytes}
use Rattle.journal.specs.Block.{zeros, head_of, body_of, block_of, title_at, entry_at, entries_from, entries_of, zero_at, entry_fits, entries_fit, block_ok}
use Rattle.commons.proofs.Folds.{all-at}
use Rattle.journal.proofs.LawsPut.{four_bytes_lem, sum-checked, run_checked}
use Rattle.journal.proofs.LawsBlock.{ok-length, ok-used, ok-head, ok-entries, ok-tail, ok-sum, ok_run}

-- n bytes from a place on
unfoldable pub taken : ℕ → List ℕ → ℕ → List ℕ
taken i b zero = []
taken i b (suc n) = byte b i ∷ taken (suc i) b n

pub part-taken : (b : List ℕ) (n i : ℕ) → i + n ≤ length b → take n (drop i b) ≡ taken i b n
unfolding taken
part-taken b zero i h = refl
part-taken b (suc n) i h = rw (drop-cons b i 0 (omega arith)) (ap (λ (l : List ℕ). byte b i ∷ l) (part-taken b n (suc i) (omega arith)))

pub taken_more : (b : List ℕ) (n m i : ℕ) → taken i b (n + m) ≡ taken i b n ++ taken (i + n) b m
unfolding taken
taken_more b zero m i = let e : 0 + m ≡ m = omega arith in let f : i + 0 ≡ i = omega arith in rw (e, f)
taken_more b (suc n) m i =
    let e : suc n + m ≡ suc (n + m) = omega arith in
    let f : i + suc n ≡ suc i + n = omega arith in
    rw (e, f) (ap (λ (l : List ℕ). byte b i ∷ l) (taken_more b n m (suc i)))

taken-four : (b : List ℕ) (j n : ℕ) → taken j b (4 + n) ≡ (byte b j ∷ byte b (j + 1) ∷ byte b (j + 2) ∷ byte b (j + 3) ∷ []) ++ taken (j + 4) b n
unfolding taken
taken-four b j n =
    let e : 4 + n ≡ suc (suc (suc (suc n))) = omega arith in
    let e1 : j + 1 ≡ suc j = omega arith in
    let e2 : j + 2 ≡ suc (suc j) = omega arith in
    let e3 : j + 3 ≡ suc (suc (suc j)) = omega arith in
    let e4 : j + 4 ≡ suc (suc (suc (suc j))) = omega arith in
    rw (e, e1, e2, e3, e4)

two_bytes_lem : (a b : ℕ) → a < 256 → b < 256 → two_bytes (a + b * 256) ≡ a ∷ b ∷ []
unfolding two_bytes
two_bytes_lem a b ha hb =
    let q : (a + b * 256) / 256 ≡ b = omega arith in
    let r : (a + b * 256) % 256 ≡ a = omega arith in
    rw (q, r)

pub entries-long : (b : List ℕ) (i n : ℕ) → length (entries_from b i n) ≡ n
unfolding entries_from
entries-long b i zero = refl
entries-long b i (suc n) = ap suc (entries-long b (suc i) n)

module _ (b : List ℕ) (small : (i : ℕ) → byte b i < 256) where
  -- two and four bytes spell a number of 16 and of 32 bits
  pub two-small : (i : ℕ) → two_at b i < 65536
  unfolding two_at
  two-small i = omega (arith, small i, small (i + 1))

  pub four-small : (i : ℕ) → four_at b i < 4294967296
  unfolding four_at
  four-small i = omega (arith, small i, small (i + 1), small (i + 2), small (i + 3))

  four-back : (j : ℕ) → four_bytes (four_at b j) ≡ byte b j ∷ byte b (j + 1) ∷ byte b (j + 2) ∷ byte b (j + 3) ∷ []
  unfolding four_at
  four-back j = four_bytes_lem (byte b j) (byte b (j + 1)) (byte b (j + 2)) (byte b (j + 3)) (small j) (small (j + 1)) (small (j + 2)) (small (j + 3))

  two_back : (j : ℕ) → two_bytes (two_at b j) ≡ byte b j ∷ byte b (j + 1) ∷ []
  unfolding two_at
  two_back j = two_bytes_lem (byte b j) (byte b (j + 1)) (small j) (small (j + 1))

  -- the entries are the bytes from 16 on
  entries-back : (n i : ℕ) → all_bytes (entries_from b i n) ≡ taken (16 + 4 * i) b (4 * n)
  unfolding all_bytes entries_from taken
  entries-back zero i = refl
  entries-back (suc n) i =
      let e : 4 * suc n ≡ 4 + 4 * n = omega arith in
      let f : 16 + 4 * suc i ≡ 16 + 4 * i + 4 = omega arith in
      rw (e, taken-four b (16 + 4 * i) (4 * n), four-back (16 + 4 * i), entries-back n (suc i), f)

-- zeros where all is zero
zero-taken : (b : List ℕ) (n j : ℕ) → ((k : ℕ) → k < n → byte b (j + k) ≡ 0) → taken j b n ≡ zeros n
unfolding taken zeros
zero-taken b zero j z = refl
zero-taken b (suc n) j z =
    let e : j + 0 ≡ j = omega arith in
    λ i. (rw e at (z 0 (omega arith))) i ∷ zero-taken b n (suc j) (λ k h. let f : suc j + k ≡ j + suc k = omega arith in rw f (z (suc k) (omega arith))) i

zero_word : (b : List ℕ) (j r : ℕ) → four_at b j ≡ 0 → r < 4 → byte b (j + r) ≡ 0
unfolding four_at
zero_word b j zero e h = let f : j + 0 ≡ j = omega arith in rw f (omega arith)
zero_word b j (suc zero) e h = omega arith
zero_word b j (suc (suc zero)) e h = omega arith
zero_word b j (suc (suc (suc zero))) e h = omega arith
zero_word b j (suc (suc (suc (suc r)))) e h = absurd (omega arith)

eqb_of : (e : ℕ) (t : Bool) → t ≡ false → entry_fits t e ≡ true → e ≡ 0
unfolding entry_fits
eqb_of e t f h = eqb-true e 0 (rw f at h)

module _ (b : List ℕ) (small : (i : ℕ) → byte b i < 256) (ok : block_ok b ≡ true) where
  abbrev used : ℕ
  used = byte b 10

  pub unused : (k : ℕ) → byte b 10 ≤ k → k < 120 → entry_at b k ≡ 0
  unfolding entries_fit
  unused k h g = eqb_of (entry_at b k) (ltb k used) (le-ltb k used h) (all-at 120 (λ i. entry_fits (ltb i used) (entry_at b i)) (ok-entries b ok) k g)

  zero-at : (at n k : ℕ) → zero_at b at n ≡ true → k < n → byte b (at + k) ≡ 0
  unfolding zero_at
  zero-at at n k z h = eqb-true (byte b (at + k)) 0 (all-at n (λ i. eqb (byte b (at + i)) 0) z k h)

  rest-zero : (k : ℕ) → k < 494 - 4 * used → byte b (16 + 4 * used + k) ≡ 0
  rest-zero k h =
      ⊎_elim
      (λ g.
      let u = ok-used b ok in
      let e : 16 + 4 * used + k ≡ 16 + 4 * (used + k / 4) + k % 4 = omega arith in
      rw e (zero_word b (16 + 4 * (used + k / 4)) (k % 4) (unused (used + k / 4) (omega arith) (omega arith)) (omega arith)))
      (λ g.
      let u = ok-used b ok in
      let e : 16 + 4 * used + k ≡ 496 + (k - (480 - 4 * used)) = omega arith in
      rw e (zero-at 496 14 (k - (480 - 4 * used)) (ok-tail b ok) (omega arith)))
      (lt_or_le k (480 - 4 * used))

  head-back : head_of (title_at b) (byte b 8) (byte b 9) used ≡ taken 0 b 16
  unfolding head_of taken
  head-back =
      rw (two_back b small 0, two_back b small 2, four-back b small 4) (
      λ i. byte b 0 ∷ byte b 1 ∷ byte b 2 ∷ byte b 3 ∷ byte b 4 ∷ byte b 5 ∷ byte b 6 ∷ byte b 7 ∷ byte b 8 ∷ byte b 9 ∷ byte b 10 ∷ byte b 11
      ∷ sym (zero-at 12 4 0 (ok-head b ok) (omega arith)) i ∷ sym (zero-at 12 4 1 (ok-head b ok) (omega arith)) i
      ∷ sym (zero-at 12 4 2 (ok-head b ok) (omega arith)) i ∷ sym (zero-at 12 4 3 (ok-head b ok) (omega arith)) i ∷ [])

  body_back : body_of (title_at b) (byte b 8) (byte b 9) (entries_of b) ≡ take 510 b
  unfolding body_of
  body_back =
      let u = ok-used b ok in
      let n = ok-length b ok in
      let e : 16 + 4 * used + (494 - 4 * used) ≡ 510 = omega arith in
      rw (entries-long b 0 used, head-back, entries-back b small used 0, sym (zero-taken b (494 - 4 * used) (16 + 4 * used) rest-zero)) (
      rw (sym (taken_more b 16 (4 * used) 0)) (
      let z : 0 + (16 + 4 * used) ≡ 16 + 4 * used = omega arith in
      rw (sym (rw z at (taken_more b (16 + 4 * used) (494 - 4 * used) 0)), e) (
      sym (part-taken b 510 0 (omega arith)))))

  check-back : drop 510 b ≡ byte b 510 ∷ byte b 511 ∷ []
  unfolding taken
  check-back =
      let n = ok-length b ok in
      let e : length b ≤ 512 = omega arith in
      rw (drop-cons b 510 0 (omega arith), drop-cons b 511 0 (omega arith), drop_of_length-le b {i = 512} e)

  -- the block that was read is the block that is written of what it says
  pub one_image : b ≡ block_of (title_at b) (byte b 8) (byte b 9) (entries_of b)
  unfolding block_of
  one_image =
      let n = ok-length b ok in
      let h : length (take 510 b) ≡ 510 = length-take-le 510 b (omega arith) in
      let whole : take 510 b ++ drop 510 b ≡ b = take-append-drop 510 b in
      let s : sum_check (take 510 b) ≡ byte b 510 = sym (ok-sum b ok ∙ ap sum_check (sym whole) ∙ sum-checked (take 510 b) (drop 510 b) h) in
      let r : run_check (take 510 b) ≡ byte b 511 = sym (ok_run b ok ∙ ap run_check (sym whole) ∙ run_checked (take 510 b) (drop 510 b) h) in
      sym (rw (body_back, s, r, sym check-back) whole)
