-- A hand read from a host's bytes: what each call tells, by whether the lists are long enough. Assumes nothing.
use Rattle.std.specs.Prelude.{Result}
use Rattle.refusals.specs.declared.JournalError.{JournalError}
use Prim.Native.Nat.{ℕ, ◌≤◌, ◌<◌}
use mathlib.Core.Path.{◌≡◌, ap, ◌∙◌}
use mathlib.Core.Bool.{true, false, ◌&&◌}
use mathlib.Core.List.{List, [], ◌∷◌}
use borrow.Author.Tests.{le-leb, lt-leb}
use lib.Dec.{leb}
use lib.ListN.{length}
use Rattle.commons.specs.Filled.{copied}
use Rattle.journal.specs.declared.block.Head.{Head}
use Rattle.journal.specs.declared.hand.HandHead.{HandHead}
use Rattle.journal.specs.declared.reading.LineRead.{LineRead}
use Rattle.journal.specs.Hand.{reads}
use Rattle.journal.specs.Read.{read_of}
use Rattle.journal.specs.Reading.{line_read}
use Rattle.layout.specs.Words.{word_of}
use Rattle.peatcloak.specs.Reading.{Told, told, read_number, block_read_told, read_block_on, hand_read_told, read_hand_on, line_told, line_words, line_at_on}

-- what a call that comes to t answers and tells
abbrev pub Tells : Told → ℕ → List ℕ → Type 0
Tells t r head = (r ≡ t.number) × (head ≡ t.head)

tells : (t : Told) (r : ℕ) (head : List ℕ) → told r head ≡ t → Tells t r head
tells t r head e = ((λ i. (e i).number), (λ i. (e i).head))

module _ (bytes head : List ℕ) where
  -- ---- a block
  pub block-told : (b : Result Head JournalError) (r : ℕ) (head' : List ℕ) → 7 ≤ length head → b ≡ read_of bytes → r ≡ read_number b → head' ≡ block_read_told b head → Tells (read_block_on bytes head) r head'
  unfolding read_block_on
  block-told b r head' room e n t =
      tells (read_block_on bytes head) r head' ((λ i. told ((n ∙ ap read_number e) i) ((t ∙ λ j. block_read_told (e j) head) i)) ∙ simp (le-leb 7 (length head) room))

  pub block_untold : length head < 7 → Tells (read_block_on bytes head) 19 head
  unfolding read_block_on
  block_untold short = tells (read_block_on bytes head) 19 head (simp (lt-leb 7 (length head) short))

  -- ---- a hand
  pub hand-told : (h : Result HandHead JournalError) (r : ℕ) (head' : List ℕ) → 6 ≤ length head → h ≡ reads bytes → r ≡ read_number h → head' ≡ hand_read_told h head → Tells (read_hand_on bytes head) r head'
  unfolding read_hand_on
  hand-told h r head' room e n t =
      tells (read_hand_on bytes head) r head' ((λ i. told ((n ∙ ap read_number e) i) ((t ∙ λ j. hand_read_told (e j) head) i)) ∙ simp (le-leb 6 (length head) room))

  pub hand_untold : length head < 6 → Tells (read_hand_on bytes head) 19 head
  unfolding read_hand_on
  hand_untold short = tells (read_hand_on bytes head) 19 head (simp (lt-leb 6 (length head) short))

-- ---- a line
module _ (bytes : List ℕ) (at : ℕ) (line numbers : List ℕ) where
  abbrev pub LineTells : ℕ → List ℕ → List ℕ → Type 0
  LineTells r line' numbers' = let t = line_at_on bytes at line numbers in (r ≡ t.number) × ((line' ≡ t.line) × (numbers' ≡ t.numbers))

  line-tells : (r : ℕ) (line' numbers' : List ℕ) → line_told r line' numbers' ≡ line_at_on bytes at line numbers → LineTells r line' numbers'
  line-tells r line' numbers' e = ((λ i. (e i).number), ((λ i. (e i).line), (λ i. (e i).numbers)))

  pub line-told : (l : LineRead) (a b c : ℕ) (line' numbers' : List ℕ)
      → leb 3 (length line) && leb 20 (length numbers) ≡ true
      → l ≡ line_read bytes at
      → a ≡ l.words.letter
      → b ≡ word_of l.words.count
      → c ≡ word_of l.next
      → line' ≡ copied 0 0 line 0 (a ∷ b ∷ c ∷ []) 3
      → numbers' ≡ copied 0 0 numbers 0 l.words.numbers 20
      → LineTells 0 line' numbers'
  unfolding line_at_on line_words
  line-told l a b c line' numbers' room e f g h j k =
      let words : copied 0 0 line 0 (a ∷ b ∷ c ∷ []) 3 ≡ copied 0 0 line 0 (line_words l) 3 = λ i. copied 0 0 line 0 (f i ∷ g i ∷ h i ∷ []) 3 in
      line-tells 0 line' numbers'
      ((λ i. line_told 0 ((j ∙ words) i) (k i)) ∙ (λ i. line_told 0 (copied 0 0 line 0 (line_words (e i)) 3) (copied 0 0 numbers 0 (e i).words.numbers 20)) ∙ simp room)

  pub line_untold : leb 3 (length line) && leb 20 (length numbers) ≡ false → LineTells 19 line numbers
  unfolding line_at_on
  line_untold short = line-tells 19 line numbers (simp short)
