-- When a hand is refused, and with what: 27 and 28 of the writer, 27 of the reader, each exactly when it should be. Assumes nothing.
use Prim.Native.Nat.{ℕ}
use native.Mathlib.Omega.{arith}
use mathlib.Core.Path.{◌≡◌, refl, sym, ap, ◌∙◌}
use mathlib.Core.Bool.{Bool, true, false, cond, not, ◌&&◌, ◌||◌}
use mathlib.Core.List.{List}
use lib.Dec.{ltb}
use lib.ListN.{length}
use Rattle.commons.proofs.Order.{ltb-same}
use Rattle.refusals.specs.declared.JournalError.{JournalError}
use Rattle.refusals.specs.declared.JournalError.TheVariants.{BadJournal, NotKept}
use Rattle.keys.specs.Keys.{is_key}
use Rattle.journal.specs.Block.{is_edition, title_at}
use Rattle.journal.specs.Lines.{Line, spells, lines_ok, tape_of}
use Rattle.journal.specs.Hand.{block_count, writes, blocks_in, word_count, hand_ok, reads}
use Rattle.journal.specs.declared.block.Title.{Title}
use Rattle.journal.specs.declared.hand.HandHead.{HandHead}
use Rattle.std.specs.Prelude.{Result, Ok, Err}
use Rattle.journal.proofs.LawsSpelt.{AllSized, spells_as}

-- more than 30,600 entries are more than 255 blocks
pub above : (n : ℕ) → ltb 30600 n ≡ ltb 255 (block_count n)
above n = ltb-same 30600 n 255 (block_count n) (λ h. omega arith) (λ h. omega arith)

module _ (k : Title) (ws : List ℕ) where
  -- a hand: an edition that is known, and entries that spell one
  abbrev pub is_hand : Bool
  is_hand = is_edition k.edition && spells ws

  -- it is not kept: no key, or above 255 blocks
  abbrev pub unkept : Bool
  unkept = not (is_key k.key) || ltb 255 (block_count (length ws))

  pub writer_is : writes k ws ≡ cond is_hand (cond unkept (Err NotKept) (Ok (block_count (length ws)))) (Err BadJournal)
  unfolding writes
  writer_is = rw (above (length ws))

  abbrev number : Result ℕ JournalError → ℕ
  number (Err BadJournal) = 27
  number (Err NotKept) = 28
  number (Ok n) = 0

  -- 27 exactly for what is no hand
  pub bad_iff : writes k ws ≡ Err BadJournal → is_hand ≡ false
  bad_iff e = at is_hand unkept (sym writer_is ∙ e)
    where
      at : (t u : Bool) → cond t (cond u (Err NotKept) (Ok (block_count (length ws)))) (Err BadJournal) ≡ Err BadJournal → t ≡ false
      at false u e = refl
      at true false e = absurd (let z : ◌≡◌ {A = ℕ} 0 27 = ap number e in omega arith)
      at true true e = absurd (let z : ◌≡◌ {A = ℕ} 28 27 = ap number e in omega arith)

  pub bad_if : is_hand ≡ false → writes k ws ≡ Err BadJournal
  bad_if e = writer_is ∙ ap (λ (t : Bool). cond t (cond unkept (Err NotKept) (Ok (block_count (length ws)))) (Err BadJournal)) e

  -- 28 exactly for a hand that is not kept, so after 27
  pub unkept_iff : writes k ws ≡ Err NotKept → (is_hand ≡ true) × (unkept ≡ true)
  unkept_iff e = at is_hand unkept (sym writer_is ∙ e)
    where
      at : (t u : Bool) → cond t (cond u (Err NotKept) (Ok (block_count (length ws)))) (Err BadJournal) ≡ Err NotKept → (t ≡ true) × (u ≡ true)
      at false u e = absurd (let z : ◌≡◌ {A = ℕ} 27 28 = ap number e in omega arith)
      at true false e = absurd (let z : ◌≡◌ {A = ℕ} 0 28 = ap number e in omega arith)
      at true true e = (refl, refl)

  pub unkept_if : is_hand ≡ true → unkept ≡ true → writes k ws ≡ Err NotKept
  unkept_if e f = writer_is ∙ (λ i. cond (e i) (cond (f i) (Err NotKept) (Ok (block_count (length ws)))) (Err BadJournal))

-- ---- the writer on lines: any whose letters are bytes above 0 and whose numbers have 16 bits. Of letters this is needed: an entry 0 is a number (`zero-letter`)
and_no : (t : Bool) → t && false ≡ false
and_no true = refl
and_no false = refl

module _ (k : Title) (ls : List Line) (a : AllSized ls) where
  -- their entries are a hand exactly when the lines are one
  pub hand_as : is_hand k (tape_of ls) ≡ is_edition k.edition && lines_ok ls
  hand_as = ap (λ (t : Bool). is_edition k.edition && t) (spells_as ls a)

  -- lines that are no hand are 27
  pub lines-bad : lines_ok ls ≡ false → writes k (tape_of ls) ≡ Err BadJournal
  lines-bad e = bad_if k (tape_of ls) (hand_as ∙ ap (λ (t : Bool). is_edition k.edition && t) e ∙ and_no (is_edition k.edition))

  -- and in an edition that is known no others are
  pub lines-bad-only : is_edition k.edition ≡ true → writes k (tape_of ls) ≡ Err BadJournal → lines_ok ls ≡ false
  lines-bad-only v e = ap (λ (t : Bool). t && lines_ok ls) (sym v) ∙ sym hand_as ∙ bad_iff k (tape_of ls) e

-- ---- the reader: 27 exactly for what is no hand of blocks, and nothing else
abbrev told : Result HandHead JournalError → ℕ
told (Err e) = 1
told (Ok h) = 0

pub refused_iff : (b : List ℕ) → reads b ≡ Err BadJournal → hand_ok b ≡ false
unfolding reads
refused_iff b e = at (hand_ok b) (record { title = title_at b; blocks = blocks_in b; entries = word_count b }) e
  where
    at : (t : Bool) (h : HandHead) → cond t (Ok h) (Err BadJournal) ≡ Err BadJournal → t ≡ false
    at false h e = refl
    at true h e = absurd (let z : ◌≡◌ {A = ℕ} 0 1 = ap told e in omega arith)

pub refused_if : (b : List ℕ) → hand_ok b ≡ false → reads b ≡ Err BadJournal
unfolding reads
refused_if b e = simp e
