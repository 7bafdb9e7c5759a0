-- Laws of a hand that is read. Assumes nothing.
use Prim.Native.Nat.{ℕ, ◌+◌, ◌*◌, ◌-◌, ◌≤◌, ◌<◌, ◌%◌}
use native.Mathlib.Omega.{arith}
use mathlib.Core.Path.{◌≡◌, ◌∙◌}
use mathlib.Core.Bool.{true, false}
use mathlib.Core.List.{List}
use borrow.Author.Tests.{eq-eqb, ne_eqb, le-leb, lt-leb}
use lib.ListN.{length, drop}
use lib.Seq.{get_or-take, get_or-drop}
use Rattle.journal.specs.Check.{byte}
use Rattle.journal.specs.Block.{block_ok, title_at}
use Rattle.journal.specs.Lines.{spells}
use Rattle.journal.specs.Hand.{piece, block_says, block_fits, blocks_in, blocks_fit, word_count, words_from, hand_ok, reads}
use Rattle.journal.specs.declared.block.Title.{Title}
use Rattle.refusals.specs.declared.JournalError.TheVariants.{BadJournal}
use Rattle.std.specs.Prelude.{Ok, Err}
use Rattle.commons.proofs.Folds.{all-at}
use Rattle.commons.proofs.Bools.{and_both}
use Rattle.journal.proofs.LawsBlock.{ok-some, ok-used}

pub piece_byte : (b : List ℕ) (i j : ℕ) → j < 512 → byte (piece 512 b i) j ≡ byte b (512 * i + j)
piece_byte b i j h = get_or-take 512 (drop (512 * i) b) j 0 h ∙ get_or-drop (512 * i) b j 0

pub fits-ok : (k : Title) (n i : ℕ) (p : List ℕ) → block_fits k n i p ≡ true → block_ok p ≡ true
unfolding block_fits
fits-ok k n i p e = (and_both (block_ok p) (block_says k n i p) e).0

pub fits-says : (k : Title) (n i : ℕ) (p : List ℕ) → block_fits k n i p ≡ true → block_says k n i p ≡ true
unfolding block_fits
fits-says k n i p e = (and_both (block_ok p) (block_says k n i p) e).1

module _ (b : List ℕ) where
  pub each_fits : blocks_fit b ≡ true → (i : ℕ) → i < blocks_in b → block_fits (title_at b) (blocks_in b) i (piece 512 b i) ≡ true
  unfolding blocks_fit
  each_fits e i h = all-at (blocks_in b) (λ i. block_fits (title_at b) (blocks_in b) i (piece 512 b i)) e i h

  pub last-used : blocks_fit b ≡ true → 1 ≤ blocks_in b → (1 ≤ byte b (512 * (blocks_in b - 1) + 10)) × (byte b (512 * (blocks_in b - 1) + 10) ≤ 120)
  last-used e h =
      let n = blocks_in b in
      let p = piece 512 b (blocks_in b - 1) in
      let ok = fits-ok (title_at b) n (n - 1) p (each_fits e (n - 1) (omega arith)) in
      let q = piece_byte b (n - 1) 10 (omega arith) in
      (rw q at (ok-some p ok), rw q at (ok-used p ok))

  pub no_blocks : (length b % 512 ≡ 0 → ⊥) → Err BadJournal ≡ reads b
  unfolding reads hand_ok
  no_blocks e = simp (ne_eqb (length b % 512) 0 e)

  module _ (whole : length b % 512 ≡ 0) where
    pub nothing : blocks_in b < 1 → Err BadJournal ≡ reads b
    unfolding reads hand_ok
    nothing h = simp (eq-eqb (length b % 512) 0 whole, lt-leb 1 (blocks_in b) h)

    module _ (some : 1 ≤ blocks_in b) where
      pub bad-block : blocks_fit b ≡ false → Err BadJournal ≡ reads b
      unfolding reads hand_ok
      bad-block e = simp (eq-eqb (length b % 512) 0 whole, le-leb 1 (blocks_in b) some, e)

      module _ (fit : blocks_fit b ≡ true) (total : ℕ) (t : total ≡ 120 * (blocks_in b - 1) + byte b (512 * (blocks_in b - 1) + 10)) where
        count : total ≡ word_count b
        unfolding word_count
        count = t

        pub bad-lines : spells (words_from b 0 total) ≡ false → Err BadJournal ≡ reads b
        unfolding reads hand_ok
        bad-lines e = simp (eq-eqb (length b % 512) 0 whole, le-leb 1 (blocks_in b) some, fit, rw count at e)

        pub a_hand : spells (words_from b 0 total) ≡ true → (k : Title) → k ≡ title_at b → Ok (record { title = k; blocks = blocks_in b; entries = total }) ≡ reads b
        unfolding reads hand_ok
        a_hand e k q = rw (q, count) (simp (eq-eqb (length b % 512) 0 whole, le-leb 1 (blocks_in b) some, fit, rw count at e))
