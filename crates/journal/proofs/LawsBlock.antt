-- What the tests of a block say, one by one, and a test as a byte. Assumes nothing.
use Prim.Native.Nat.{ℕ, ◌≤◌, ◌<◌}
use native.Mathlib.Omega.{arith}
use mathlib.Core.Path.{◌≡◌, refl, ◌∙◌}
use mathlib.Core.Bool.{Bool, true, false, not, ◌&&◌, ◌||◌}
use mathlib.Core.List.{List}
use borrow.Author.Tests.{eq-eqb, ne_eqb, eqb-true, eqb-false, ltb-true, leb-true}
use lib.Dec.{eqb, ltb, leb}
use lib.ListN.{length, get_or}
use Rattle.commons.proofs.Tests.{test_at}
use Rattle.commons.proofs.Bools.{turned}
use Rattle.journal.specs.Check.{byte, sum_check, run_check, check_of, check_given}
use Rattle.journal.specs.Entry.{two_at}
use Rattle.std.specs.Int.{from_bool}
use Rattle.journal.specs.Block.{bit, is_edition, zero_at, entries_fit, block_tests, block_ok}
use Rattle.journal.specs.Read.{head_at, read_of}
use Rattle.journal.specs.declared.sums.Check.{Check}
use Rattle.refusals.specs.declared.JournalError.TheVariants.{BadJournal}
use Rattle.std.specs.Prelude.{Ok, Err}
use Rattle.journal.proofs.LawsCheck.{long}

-- a test as a byte
pub test_byte : (t : Bool) → from_bool t ≡ bit t
test_byte true = refl
test_byte false = refl

module _ (b : List ℕ) where
  pub no_block : (length b ≡ 512 → ⊥) → false ≡ block_ok b
  unfolding block_ok
  no_block n = simp (ne_eqb (length b) 512 n)

  -- the twelve tests behind the length's
  pub tested : (c : Check) (year : ℕ) (edition head entries tail : Bool) → length b ≡ 512 → c ≡ check_given b → year ≡ two_at b 2 → edition ≡ is_edition (byte b 11) → head ≡ zero_at b 12 4 → entries ≡ entries_fit b → tail ≡ zero_at b 496 14
      → not (eqb year 0) && (ltb (byte b 8) 255 && (leb (byte b 9) 1 && (leb 1 (byte b 10) && (leb (byte b 10) 120 && ((eqb (byte b 9) 1 || eqb (byte b 10) 120) && (edition && (head && (entries && (tail && (eqb (byte b 510) c.sum && eqb (byte b 511) c.run)))))))))) ≡ block_ok b
  unfolding block_ok
  tested c year edition head entries tail n p q u r s t =
      let e : c ≡ check_of b = p ∙ long b (omega arith) in
      rw (e, q, u, r, s, t) (simp (eq-eqb (length b) 512 n))

  pub refused : block_ok b ≡ false → Err BadJournal ≡ read_of b
  unfolding read_of
  refused e = simp e

  pub accepted : block_ok b ≡ true → Ok (head_at b) ≡ read_of b
  unfolding read_of
  accepted e = simp e

  module _ (ok : block_ok b ≡ true) where
    passed : (k : ℕ) → get_or (block_tests b) k true ≡ true
    unfolding block_ok
    passed k = test_at (block_tests b) ok k

    pub ok-length : length b ≡ 512
    ok-length = eqb-true (length b) 512 (passed 0)

    pub ok-year : two_at b 2 ≡ 0 → ⊥
    ok-year e = eqb-false (two_at b 2) 0 (turned (eqb (two_at b 2) 0) true (passed 1)) e

    pub ok-index : byte b 8 < 255
    ok-index = ltb-true (byte b 8) 255 (passed 2)

    pub ok-last : byte b 9 ≤ 1
    ok-last = leb-true (byte b 9) 1 (passed 3)

    pub ok-some : 1 ≤ byte b 10
    ok-some = leb-true 1 (byte b 10) (passed 4)

    pub ok-used : byte b 10 ≤ 120
    ok-used = leb-true (byte b 10) 120 (passed 5)

    pub ok-full : eqb (byte b 9) 1 || eqb (byte b 10) 120 ≡ true
    ok-full = passed 6

    pub ok-edition : is_edition (byte b 11) ≡ true
    ok-edition = passed 7

    pub ok-head : zero_at b 12 4 ≡ true
    ok-head = passed 8

    pub ok-entries : entries_fit b ≡ true
    ok-entries = passed 9

    pub ok-tail : zero_at b 496 14 ≡ true
    ok-tail = passed 10

    pub ok-sum : byte b 510 ≡ sum_check b
    ok-sum = eqb-true (byte b 510) (sum_check b) (passed 11)

    pub ok_run : byte b 511 ≡ run_check b
    ok_run = eqb-true (byte b 511) (run_check b) (passed 12)
