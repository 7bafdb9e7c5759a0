-- R18.6 to R18.8, R18.10: the blocks of a hand. Definitions only.
use Rattle.std.specs.Prelude.{ℕ, zero, suc, ◌+◌, ◌*◌, ◌-◌, ◌/◌, ◌%◌, Bool, cond, not, ◌&&◌, ◌||◌, List, [], ◌∷◌, ◌++◌, Result, Ok, Err, eqb, leb, ltb, length, take, drop}
use Rattle.commons.specs.Tests.{all_of}
use Rattle.keys.specs.Keys.{is_key, is_same}
use Rattle.commons.specs.Folds.{all_to}
use Rattle.journal.specs.Check.{byte}
use Rattle.journal.specs.Entry.{four_at}
use Rattle.journal.specs.Block.{is_edition, bit, block_of, block_ok, title_at}
use Rattle.journal.specs.Lines.{spells}
use Rattle.journal.specs.declared.block.Title.{Title}
use Rattle.refusals.specs.declared.JournalError.{JournalError}
use Rattle.refusals.specs.declared.JournalError.TheVariants.{BadJournal, NotKept}
use Rattle.journal.specs.declared.hand.HandHead.{HandHead}
use Rattle.journal.specs.declared.hand.NotWritten.{NotWritten}
use Rattle.journal.specs.declared.hand.NotWritten.TheVariants.{Denied, NoRoom}

-- ---- the hand that is written
-- the blocks that so many entries fill: all but the last are filled
abbrev pub block_count : ℕ → ℕ
block_count entries = (entries + 119) / 120

-- the lists that a rule gives for 0 to n - 1, one after the other
unfoldable pub joined : ℕ → (ℕ → List ℕ) → List ℕ
joined zero f = []
joined (suc n) f = joined n f ++ f n

-- piece i of a list that is cut into pieces of m
abbrev pub piece : ℕ → List ℕ → ℕ → List ℕ
piece m l i = take m (drop (m * i) l)

unfoldable pub block_at : Title → List ℕ → ℕ → ℕ → List ℕ
block_at k ws n i = block_of k i (bit (eqb (i + 1) n)) (piece 120 ws i)

unfoldable pub hand_bytes : Title → List ℕ → List ℕ
hand_bytes k ws = joined (block_count (length ws)) (block_at k ws (block_count (length ws)))

-- 27 for entries that are no hand, then 28 for no key or above 255 blocks
unfoldable pub writes : Title → List ℕ → Result ℕ JournalError
writes k ws = cond (is_edition k.edition && spells ws) (cond (not (is_key k.key) || ltb 30600 (length ws)) (Err NotKept) (Ok (block_count (length ws)))) (Err BadJournal)

-- the same into bytes of which there are so many
unfoldable pub room : ℕ → Result ℕ JournalError → Result ℕ NotWritten
room bytes (Err e) = Err (Denied e)
room bytes (Ok n) = cond (ltb bytes (512 * n)) (Err (NoRoom n)) (Ok n)

unfoldable pub writes_into : ℕ → Title → List ℕ → Result ℕ NotWritten
writes_into bytes k ws = room bytes (writes k ws)

-- a hand that is written stands first, and what stood behind it is kept; where none is written, all is
unfoldable pub bytes_after : Result ℕ NotWritten → Title → List ℕ → List ℕ → List ℕ
bytes_after (Err e) k ws out = out
bytes_after (Ok n) k ws out = hand_bytes k ws ++ drop (512 * n) out

-- ---- the hand that is read
unfoldable pub same_title : Title → Title → Bool
same_title k m = is_same k.key m.key && eqb k.edition m.edition

-- block i of n is a block, has this number, is the last where it stands last, and has this key
unfoldable pub block_says : Title → ℕ → ℕ → List ℕ → Bool
block_says k n i b = eqb (byte b 8) i && (eqb (byte b 9) (bit (eqb (i + 1) n)) && same_title (title_at b) k)

unfoldable pub block_fits : Title → ℕ → ℕ → List ℕ → Bool
block_fits k n i b = block_ok b && block_says k n i b

abbrev pub blocks_in : List ℕ → ℕ
blocks_in b = length b / 512

-- entry i of a hand: entry i % 120 of its block i / 120
unfoldable pub word_in : List ℕ → ℕ → ℕ
word_in b i = four_at b (512 * (i / 120) + 16 + 4 * (i % 120))

unfoldable pub words_from : List ℕ → ℕ → ℕ → List ℕ
words_from b i zero = []
words_from b i (suc n) = word_in b i ∷ words_from b (suc i) n

-- the same, 0 where its block is not there
unfoldable pub word_given : List ℕ → ℕ → ℕ
word_given b i = cond (leb (blocks_in b) (i / 120)) 0 (word_in b i)

-- 120 in each block but the last
unfoldable pub word_count : List ℕ → ℕ
word_count b = 120 * (blocks_in b - 1) + byte b (512 * (blocks_in b - 1) + 10)

abbrev pub words_of : List ℕ → List ℕ
words_of b = words_from b 0 (word_count b)

unfoldable pub blocks_fit : List ℕ → Bool
blocks_fit b = all_to (blocks_in b) (λ i. block_fits (title_at b) (blocks_in b) i (piece 512 b i))

abbrev pub hand_tests : List ℕ → List Bool
hand_tests b = eqb (length b % 512) 0 ∷ leb 1 (blocks_in b) ∷ blocks_fit b ∷ spells (words_of b) ∷ []

unfoldable pub hand_ok : List ℕ → Bool
hand_ok b = all_of (hand_tests b)

unfoldable pub reads : List ℕ → Result HandHead JournalError
reads b = cond (hand_ok b) (Ok (record { title = title_at b; blocks = blocks_in b; entries = word_count b })) (Err BadJournal)
