-- A hand written from a host's lists: what each call leaves, by whether the lists are long enough and their words in range. Assumes nothing.
use Rattle.std.specs.Prelude.{Result}
use Prim.Native.Nat.{ℕ, ◌≤◌, ◌<◌, ◌%◌}
use native.Mathlib.Omega.{arith}
use mathlib.Core.Path.{◌≡◌, refl, sym, ap, ◌∙◌}
use mathlib.Core.Logic.{⊎_elim}
use mathlib.Core.Bool.{Bool, true, false, ◌&&◌}
use mathlib.Core.List.{List}
use borrow.Author.Tests.{lt-ltb, le-ltb, le-leb, lt-leb, ltb-true, ne_eqb}
use lib.Dec.{leb, ltb}
use lib.ListN.{length}
use Rattle.commons.proofs.Bools.{and_both}
use Rattle.commons.proofs.Order.{lt_or_le}
use Rattle.journal.specs.declared.block.Title.{Title}
use Rattle.journal.specs.declared.hand.NotWritten.{NotWritten}
use Rattle.journal.specs.declared.laying.Laid.{Laid}
use Rattle.journal.specs.declared.laying.NotLaid.{NotLaid}
use Rattle.journal.specs.Hand.{writes_into, bytes_after}
use Rattle.journal.specs.Lay.{lays_into, lay_after}
use Rattle.journal.specs.Lines.{count_ok}
use Rattle.journal.specs.Tape.{line_ok, put_line, tape_after}
use Rattle.peatcloak.specs.Writing.{Wrote, wrote, title_fits, title_in, letter_of, laid_number, put_out, put_line_on, hand_number, hand_out, write_hand_on, block_out, write_block_on}

-- what a call that comes to w answers and leaves
abbrev pub Leaves : Wrote → ℕ → List ℕ → List ℕ → Type 0
Leaves w r list out = (r ≡ w.number) × ((list ≡ w.list) × (out ≡ w.out))

leaves : (w : Wrote) (r : ℕ) (list out : List ℕ) → wrote r list out ≡ w → Leaves w r list out
leaves w r list out e = ((λ i. (e i).number), ((λ i. (e i).list), (λ i. (e i).out)))

-- ---- a line: what is no byte is no letter, so that nothing is lost with the letter's upper bytes
module _ (l : ℕ) (ns : List ℕ) (high : 256 ≤ l) where
  no_line : line_ok l ns ≡ false
  unfolding line_ok count_ok
  no_line =
      simp (ne_eqb l 116 (λ e. omega arith), ne_eqb l 119 (λ e. omega arith), ne_eqb l 98 (λ e. omega arith), ne_eqb l 112 (λ e. omega arith), ne_eqb l 110 (λ e. omega arith), ne_eqb l 102 (λ e. omega arith), ne_eqb l 120 (λ e. omega arith))

  no-letter : letter_of l ≡ 0
  unfolding letter_of
  no-letter = simp (le-ltb l 256 high)

nothing_line : (ns : List ℕ) → line_ok 0 ns ≡ false
unfolding line_ok count_ok
nothing_line ns = refl

low-letter : (l : ℕ) → l < 256 → letter_of l ≡ l
unfolding letter_of
low-letter l h = simp (lt-ltb l 256 h)

pub letter-put : (long used l : ℕ) (ns : List ℕ) → put_line long used (letter_of l) ns ≡ put_line long used l ns
unfolding put_line
letter-put long used l ns =
    ⊎_elim (λ h. ap (λ (b : ℕ). put_line long used b ns) (low-letter l h))
    (λ h. ap (λ (b : ℕ). put_line long used b ns) (no-letter l ns h) ∙ simp (nothing_line ns, no_line l ns h))
    (lt_or_le l 256)

pub letter-after : (used l : ℕ) (ns tape : List ℕ) → tape_after used (letter_of l) ns tape ≡ tape_after used l ns tape
unfolding tape_after
letter-after used l ns tape =
    ⊎_elim (λ h. ap (λ (b : ℕ). tape_after used b ns tape) (low-letter l h))
    (λ h. ap (λ (b : ℕ). tape_after used b ns tape) (no-letter l ns h) ∙ simp (nothing_line ns, no_line l ns h))
    (lt_or_le l 256)

module _ (tape : List ℕ) (used l : ℕ) (ns out : List ℕ) where
  pub put-done : (b : ℕ) (p : Result ℕ NotLaid) (r : ℕ) (tape' out' : List ℕ)
      → 1 ≤ length out
      → b ≡ letter_of l
      → p ≡ put_line (length tape) used b ns
      → tape' ≡ tape_after used b ns tape
      → r ≡ laid_number p
      → out' ≡ put_out p out
      → Leaves (put_line_on tape used l ns out) r tape' out'
  unfolding put_line_on
  put-done b p r tape' out' room e f g n o =
      let is = f ∙ (λ i. put_line (length tape) used (e i) ns) ∙ letter-put (length tape) used l ns in
      let stands = g ∙ (λ i. tape_after used (e i) ns tape) ∙ letter-after used l ns tape in
      leaves (put_line_on tape used l ns out) r tape' out'
      ((λ i. wrote ((n ∙ ap laid_number is) i) (stands i) ((o ∙ λ j. put_out (is j) out) i)) ∙ simp (le-leb 1 (length out) room))

  pub put-nothing : length out < 1 → Leaves (put_line_on tape used l ns out) 19 tape out
  unfolding put_line_on
  put-nothing none = leaves (put_line_on tape used l ns out) 19 tape out (simp (lt-leb 1 (length out) none))

-- ---- a hand in whole; ok is what the title's test gave
module _ (ts tape bytes out : List ℕ) (ok : Bool) (tested : ok ≡ title_fits ts) where
  with-title : (t : Bool) → leb 1 (length out) && ok ≡ t → leb 1 (length out) && title_fits ts ≡ t
  with-title t h = (λ i. leb 1 (length out) && sym tested i) ∙ h

  pub hand-done : (k : Title) (w : Result ℕ NotWritten) (r : ℕ) (bytes' out' : List ℕ)
      → leb 1 (length out) && ok ≡ true
      → k ≡ title_in ts
      → w ≡ writes_into (length bytes) k tape
      → bytes' ≡ bytes_after (writes_into (length bytes) k tape) k tape bytes
      → r ≡ hand_number w
      → out' ≡ hand_out w out
      → Leaves (write_hand_on ts tape bytes out) r bytes' out'
  unfolding write_hand_on
  hand-done k w r bytes' out' h e f g n o =
      let is = f ∙ (λ i. writes_into (length bytes) (e i) tape) in
      let stands = g ∙ (λ i. bytes_after (writes_into (length bytes) (e i) tape) (e i) tape bytes) in
      leaves (write_hand_on ts tape bytes out) r bytes' out'
      ((λ i. wrote ((n ∙ ap hand_number is) i) (stands i) ((o ∙ λ j. hand_out (is j) out) i)) ∙ simp (with-title true h))

  pub hand-nothing : leb 1 (length out) && ok ≡ false → Leaves (write_hand_on ts tape bytes out) 19 bytes out
  unfolding write_hand_on
  hand-nothing h = leaves (write_hand_on ts tape bytes out) 19 bytes out (simp (with-title false h))

-- ---- a block
module _ (ts : List ℕ) (i : ℕ) (rest bytes out : List ℕ) (ok : Bool) (tested : ok ≡ title_fits ts) where
  abbrev test : Bool → Bool
  test t = leb 1 (length out) && (ltb i 256 && t)

  with-index : (t : Bool) → test ok ≡ t → test (title_fits ts) ≡ t
  with-index t h = (λ j. test (sym tested j)) ∙ h

  low-index : test ok ≡ true → i % 256 ≡ i
  low-index h =
      let low : i < 256 = ltb-true i 256 (and_both (ltb i 256) ok (and_both (leb 1 (length out)) (ltb i 256 && ok) h).1).0 in
      omega arith

  pub block-done : (k : Title) (j : ℕ) (b : Result Laid NotLaid) (r : ℕ) (bytes' out' : List ℕ)
      → test ok ≡ true
      → k ≡ title_in ts
      → j ≡ i % 256
      → b ≡ lays_into (length bytes) k j rest
      → bytes' ≡ lay_after (lays_into (length bytes) k j rest) k j rest bytes
      → r ≡ laid_number b
      → out' ≡ block_out b out
      → Leaves (write_block_on ts i rest bytes out) r bytes' out'
  unfolding write_block_on
  block-done k j b r bytes' out' h e d f g n o =
      let index = d ∙ low-index h in
      let is = f ∙ (λ z. lays_into (length bytes) (e z) (index z) rest) in
      let stands = g ∙ (λ z. lay_after (lays_into (length bytes) (e z) (index z) rest) (e z) (index z) rest bytes) in
      leaves (write_block_on ts i rest bytes out) r bytes' out'
      ((λ z. wrote ((n ∙ ap laid_number is) z) (stands z) ((o ∙ λ y. block_out (is y) out) z)) ∙ simp (with-index true h))

  pub block-nothing : test ok ≡ false → Leaves (write_block_on ts i rest bytes out) 19 bytes out
  unfolding write_block_on
  block-nothing h = leaves (write_block_on ts i rest bytes out) 19 bytes out (simp (with-index false h))
