-- What is added keeps to its own places: it reads back, no other place moves, and no other is looked at. Assumes nothing.
use Prim.Native.Nat.{ℕ, ◌+◌, ◌-◌, ◌<◌, ◌≤◌, ◌%◌}
use native.Mathlib.Nat.{mod-eq_of_lt}
use native.Mathlib.Omega.{arith}
use mathlib.Core.Path.{◌≡◌, refl, sym, ap, ◌∙◌}
use mathlib.Core.Bool.{true}
use mathlib.Core.List.{List}
use lib.ListN.{get_or, length}
use borrow.Author.Count.{below_none, below_more}
use borrow.Author.Tests.{ltb-true}
use Rattle.commons.specs.Filled.{shared}
use Rattle.commons.proofs.Filled.{laid_out, laid-at, copied-whole}
use Rattle.commons.proofs.Tests.{test_at}
use Rattle.keys.specs.Keys.{key_of}
use Rattle.table.specs.declared.added.Added.{Added}
use Rattle.table.specs.Added.{added_of}
use Rattle.layout.specs.Added.{fit_tests, added_at, added_fits, added_words, laid_added, AddedFit}
use Rattle.layout.specs.Places.{ADDED, KEY_CODE, KEY_YEAR, KEY_HAND, FREE, NUMBERS}
use Rattle.layout.specs.Words.{word_at}

module _ (a : Added) (ns : List ℕ) where
  pub added_apart : (j : ℕ) → (ADDED ≤ j → j < FREE → ⊥) → word_at (laid_added a ns) j ≡ word_at ns j
  added_apart j out = laid_out ADDED ns (λ k. get_or (added_words a) (0 + k) 0) (shared ADDED ns 0 (added_words a) 3) j 0 (λ i h e. out (omega arith) (omega arith))

  module _ (long : NUMBERS ≤ length ns) where
    word_back : (i : ℕ) → i < 3 → word_at (laid_added a ns) (ADDED + i) ≡ get_or (added_words a) (0 + i) 0
    word_back i h = (λ z. word_at (copied-whole 0 ADDED ns 0 (added_words a) 3 (omega arith) (omega arith) z) (ADDED + i)) ∙ laid-at ADDED ns (λ k. get_or (added_words a) (0 + k) 0) 3 i 0 h (omega arith)

    pub added-back : AddedFit a → added_at (laid_added a ns) ≡ a
    unfolding added_at
    added-back f =
        let code = ap (λ (w : ℕ). w % 65536) (word_back 0 (omega arith)) ∙ mod-eq_of_lt f.code in
        let year = ap (λ (w : ℕ). w % 65536) (word_back 1 (omega arith)) ∙ mod-eq_of_lt f.year in
        let hand = word_back 2 (omega arith) in
        λ z. added_of (key_of (code z) (year z) (hand z))

-- it is read from its own places alone
pub added-same : (ns ms : List ℕ) → ((j : ℕ) → ADDED ≤ j → j < FREE → word_at ns j ≡ word_at ms j) → added_at ns ≡ added_at ms
unfolding added_at
added-same ns ms e =
    let code = e KEY_CODE (omega arith) (omega arith) in
    let year = e KEY_YEAR (omega arith) (omega arith) in
    let hand = e KEY_HAND (omega arith) (omega arith) in
    λ z. added_of (key_of (code z % 65536) (year z % 65536) (hand z))

-- what stands there is laid again as it was, whatever else the list holds
pub added-again : (ns ms : List ℕ) → NUMBERS ≤ length ms → added_fits ns ≡ true → (j : ℕ) → ADDED ≤ j → j < FREE → word_at (laid_added (added_at ns) ms) j ≡ word_at ns j
unfolding added_at
added-again ns ms long fit j h g =
    let at = test_at (fit_tests ns) fit in
    let Again : ℕ → Type 0 = λ i. get_or (added_words (added_at ns)) (0 + i) 0 ≡ word_at ns (ADDED + i) in
    let code : Again 0 = mod-eq_of_lt (ltb-true _ _ (at 0)) in
    let year : Again 1 = mod-eq_of_lt (ltb-true _ _ (at 1)) in
    let again = below_more Again 2 (below_more Again 1 (below_more Again 0 (below_none Again) code) year) refl in
    let place : ADDED + (j - ADDED) ≡ j = omega arith in
    (λ z. word_at (laid_added (added_at ns) ms) (sym place z)) ∙ word_back (added_at ns) ms long (j - ADDED) (omega arith) ∙ again (j - ADDED) (omega arith) ∙ λ z. word_at ns (place z)
