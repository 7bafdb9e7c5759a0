-- R15.28 to R15.30: what is read of the journal from a host's bytes, and told in its lists. Definitions only.
use Rattle.std.specs.Prelude.{ℕ, Result, Ok, Err, cond, ◌&&◌, List, [], ◌∷◌, leb, length}
use Rattle.commons.specs.Filled.{copied}
use Rattle.refusals.specs.declared.JournalError.{JournalError}
use Rattle.refusals.specs.declared.AddedError.TheVariants.{BadRecord}
use Rattle.refusals.specs.Number.{added_number, journal_number}
use Rattle.journal.specs.declared.block.Head.{Head}
use Rattle.journal.specs.declared.block.Title.{Title}
use Rattle.journal.specs.declared.hand.HandHead.{HandHead}
use Rattle.journal.specs.declared.reading.LineRead.{LineRead}
use Rattle.journal.specs.Hand.{reads}
use Rattle.journal.specs.Read.{read_of}
use Rattle.journal.specs.Reading.{line_read}
use Rattle.layout.specs.Words.{word_of, flag_of}

-- what a call comes to: its answer, and what stands then in `head`
pub record Told : Type 0 where
  pub number : ℕ
  pub head : List ℕ

abbrev pub told : ℕ → List ℕ → Told
told r head = record { number = r; head = head }

-- code, year, hand, edition, and what follows
abbrev pub titled : Title → List ℕ → List ℕ
titled t rest = t.key.code ∷ t.key.year ∷ t.key.hand ∷ t.edition ∷ rest

-- ---- R15.28, R15.29: 0 where bytes read, else why they do not
unfoldable pub read_number : {A : Type 0} → Result A JournalError → ℕ
read_number (Ok _) = 0
read_number (Err e) = journal_number e

-- ---- R15.28: a block; its number within the hand, whether it is the last, its entries
unfoldable pub block_words : Head → List ℕ
block_words h = titled h.title (h.index ∷ flag_of h.last ∷ h.used ∷ [])

unfoldable pub block_read_told : Result Head JournalError → List ℕ → List ℕ
block_read_told (Err e) head = head
block_read_told (Ok h) head = copied 0 0 head 0 (block_words h) 7

unfoldable pub read_block_on : List ℕ → List ℕ → Told
read_block_on bytes head = cond (leb 7 (length head)) (told (read_number (read_of bytes)) (block_read_told (read_of bytes) head)) (told (added_number BadRecord) head)

-- ---- R15.29: a hand; its blocks, its entries
unfoldable pub hand_words : HandHead → List ℕ
hand_words h = titled h.title (word_of h.blocks ∷ word_of h.entries ∷ [])

unfoldable pub hand_read_told : Result HandHead JournalError → List ℕ → List ℕ
hand_read_told (Err e) head = head
hand_read_told (Ok h) head = copied 0 0 head 0 (hand_words h) 6

unfoldable pub read_hand_on : List ℕ → List ℕ → Told
read_hand_on bytes head = cond (leb 6 (length head)) (told (read_number (reads bytes)) (hand_read_told (reads bytes) head)) (told (added_number BadRecord) head)

-- ---- R15.30: the line whose letter is an entry: its letter, how many numbers it has, the entry after it; and the first twenty numbers
pub record LineTold : Type 0 where
  pub number : ℕ
  pub line : List ℕ
  pub numbers : List ℕ

abbrev pub line_told : ℕ → List ℕ → List ℕ → LineTold
line_told r line numbers = record { number = r; line = line; numbers = numbers }

unfoldable pub line_words : LineRead → List ℕ
line_words l = l.words.letter ∷ word_of l.words.count ∷ word_of l.next ∷ []

unfoldable pub line_at_on : List ℕ → ℕ → List ℕ → List ℕ → LineTold
line_at_on bytes at line numbers =
    let l = line_read bytes at in
    cond (leb 3 (length line) && leb 20 (length numbers)) (line_told 0 (copied 0 0 line 0 (line_words l) 3) (copied 0 0 numbers 0 l.words.numbers 20)) (line_told (added_number BadRecord) line numbers)
