-- A hand that is written across the boundary: in whole and block by block it is the same bytes, and they read back as what was written. Assumes nothing.
use Rattle.std.specs.Prelude.{Ok}
use Prim.Native.Nat.{ℕ, ◌+◌, ◌*◌, ◌-◌, ◌≤◌, ◌<◌}
use native.Mathlib.Omega.{arith}
use mathlib.Core.Path.{◌≡◌, sym, ap, ◌∙◌}
use mathlib.Core.Bool.{Bool, true, false, cond, not}
use mathlib.Core.List.{List, [], ◌∷◌, ◌++◌}
use borrow.Author.Tests.{lt-ltb, le-ltb, le-leb, ne_eqb}
use lib.Dec.{ltb, eqb}
use lib.ListN.{length, set, drop, length-append, length-drop}
use Rattle.commons.specs.Filled.{copied}
use Rattle.journal.specs.declared.block.Title.{Title}
use Rattle.journal.specs.declared.laying.Laid.TheVariants.{More, Last}
use Rattle.journal.specs.Block.{bit}
use Rattle.journal.specs.Hand.{block_count, joined, block_at, hand_bytes, writes, room, writes_into, bytes_after}
use Rattle.journal.specs.Lay.{block_laid, lays, lay_room, lays_into, lay_after}
use Rattle.journal.proofs.Hands.{KeyFits, writes_kept, round_trip}
use Rattle.journal.proofs.LawsTrip.{Kept, block-is}
use Rattle.journal.proofs.Images.{laid-alone, laid-says, held-block, held-says}
use Rattle.layout.specs.Words.{word_at, word_of}
use Rattle.peatcloak.specs.Writing.{wrote, title_fits, title_in, hand_number, hand_out, write_hand_on, laid_number, follows, block_out, write_block_on}
use Rattle.peatcloak.specs.Reading.{told, titled, hand_words, read_number, hand_read_told, read_hand_on}

-- a hand that the room writes, under the title that a host's words tell
module _ (ts tape : List ℕ) (word : word_at ts 2 < 4294967296) (n : ℕ) (e : writes (title_in ts) tape ≡ Ok n) (title : title_fits ts ≡ true) where
  abbrev k : Title
  k = title_in ts

  fits : KeyFits (title_in ts)
  unfolding title_in
  fits = record { code = omega arith; year = omega arith; hand = word }

  kept : Kept k tape
  kept = (writes_kept k tape n fits e).0

  count : n ≡ block_count (length tape)
  count = (writes_kept k tape n fits e).1

  few : word_of n ≡ n
  few = let m = kept.most in let c = count in omega arith

  short : word_of (length tape) ≡ length tape
  short = let m = kept.most in omega arith

  -- ---- in whole
  pub hand-written : (bytes out : List ℕ) → 1 ≤ length out → 512 * n ≤ length bytes → write_hand_on ts tape bytes out ≡ wrote 0 (hand_bytes k tape ++ drop (512 * n) bytes) (set out 0 n)
  unfolding write_hand_on writes_into room hand_number hand_out bytes_after
  hand-written bytes out one roomy = simp (le-leb 1 (length out) one, title, e, le-ltb (length bytes) (512 * n) roomy, few)

  pub hand-back : (head : List ℕ) → 6 ≤ length head → read_hand_on (hand_bytes k tape) head ≡ told 0 (copied 0 0 head 0 (titled k (n ∷ length tape ∷ [])) 6)
  unfolding read_hand_on read_number hand_read_told hand_words
  hand-back head long = simp (le-leb 6 (length head) long, (round_trip k tape n fits e).0, few, short)

  -- ---- block by block: the blocks one after the other are the hand
  pub hand_blocks : hand_bytes k tape ≡ joined n (block_at k tape n)
  unfolding hand_bytes
  hand_blocks = λ i. joined (sym count i) (block_at k tape (sym count i))

  module _ (i : ℕ) (low : i < n) where
    abbrev rest : List ℕ
    rest = drop (120 * i) tape

    in_hand : i < block_count (length tape)
    in_hand = let c = count in omega arith

    low-index : ltb i 256 ≡ true
    low-index = let m = kept.most in let h = in_hand in lt-ltb i 256 (omega arith)

    pub block-alike : block_laid k i rest ≡ block_at k tape n i
    block-alike = laid-alone k tape kept i in_hand ∙ block-is k tape kept i in_hand ∙ λ j. block_at k tape (sym count j) i

    says : lays k i rest ≡ Ok (cond (eqb (i + 1) n) Last More)
    says = laid-says k tape kept i in_hand ∙ λ j. Ok (cond (eqb (i + 1) (sym count j)) Last More)

    module _ (bytes out : List ℕ) (one : 1 ≤ length out) (roomy : 512 ≤ length bytes) where
      -- out tells whether another follows
      laid_so : (held : List ℕ) (last : Bool) → lays k i held ≡ Ok (cond last Last More) → write_block_on ts i held bytes out ≡ wrote 0 (block_laid k i held ++ drop 512 bytes) (set out 0 (bit (not last)))
      unfolding write_block_on lays_into lay_room lay_after laid_number follows block_out
      laid_so held true h = simp (le-leb 1 (length out) one, low-index, title, h, le-ltb (length bytes) 512 roomy)
      laid_so held false h = simp (le-leb 1 (length out) one, low-index, title, h, le-ltb (length bytes) 512 roomy)

      pub block_written : write_block_on ts i rest bytes out ≡ wrote 0 (block_at k tape n i ++ drop 512 bytes) (set out 0 (bit (not (eqb (i + 1) n))))
      block_written = laid_so rest (eqb (i + 1) n) says ∙ λ j. wrote 0 (block-alike j ++ drop 512 bytes) (set out 0 (bit (not (eqb (i + 1) n))))

      -- a console may hold a part of what is left, if it is more than a block
      pub held-written : (held more : List ℕ) → rest ≡ held ++ more → 120 < length held → write_block_on ts i held bytes out ≡ wrote 0 (block_at k tape n i ++ drop 512 bytes) (set out 0 1)
      held-written held more q h =
          let room = left-fits in
          let s : lays k i held ≡ lays k i rest = held-says k i held more h (rw q at room) ∙ λ j. lays k i (sym q j) in
          let b : block_laid k i held ≡ block_at k tape n i = held-block k i held more h ∙ (λ j. block_laid k i (sym q j)) ∙ block-alike in
          laid_so held false (s ∙ goes_on) ∙ λ j. wrote 0 (b j ++ drop 512 bytes) (set out 0 1)
        where
          left-fits : length rest ≤ 30600 - 120 * i
          left-fits = let m = kept.most in omega (arith, length-drop (120 * i) tape)

          long : 120 < length rest
          long = let e : length rest ≡ length held + length more = ap length q ∙ length-append held more in omega arith

          goes_on : lays k i rest ≡ Ok More
          goes_on = let c = count in let l = long in says ∙ ap (λ (t : Bool). Ok (cond t Last More)) (ne_eqb (i + 1) n (λ z. omega (arith, length-drop (120 * i) tape)))
