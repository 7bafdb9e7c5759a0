-- R18.9: one block at a time, from the entries that are left of the hand. Definitions only.
use Rattle.std.specs.Prelude.{ℕ, ◌*◌, ◌-◌, Bool, cond, not, ◌&&◌, ◌||◌, List, ◌++◌, Result, Ok, Err, ltb, leb, length, get_or, take, drop}
use Rattle.commons.specs.Folds.{all_to}
use Rattle.refusals.specs.declared.JournalError.{JournalError}
use Rattle.refusals.specs.declared.JournalError.TheVariants.{BadJournal, NotKept}
use Rattle.keys.specs.Keys.{is_key}
use Rattle.journal.specs.Entry.{is_entry}
use Rattle.journal.specs.Block.{is_edition, bit, block_of}
use Rattle.journal.specs.declared.block.Title.{Title}
use Rattle.journal.specs.declared.laying.Laid.{Laid}
use Rattle.journal.specs.declared.laying.Laid.TheVariants.{More, Last}
use Rattle.journal.specs.declared.laying.NotLaid.{NotLaid}
use Rattle.journal.specs.declared.laying.NotLaid.TheVariants.{Denied, NoRoom}

unfoldable pub all_entries : List ℕ → Bool
all_entries ws = all_to (length ws) (λ i. is_entry (get_or ws i 0))

-- block i has the first 120 of what is left, and is the last where that is all
unfoldable pub block_laid : Title → ℕ → List ℕ → List ℕ
block_laid k i ws = block_of k i (bit (leb (length ws) 120)) (take 120 ws)

-- 27 for what is no block, then 28 for no key, or for more than the blocks from i to 254 hold
unfoldable pub lays : Title → ℕ → List ℕ → Result Laid JournalError
lays k i ws =
    cond (is_edition k.edition && (leb 1 (length ws) && all_entries (take 120 ws)))
    (cond (not (is_key k.key) || ltb (30600 - 120 * i) (length ws)) (Err NotKept) (Ok (cond (leb (length ws) 120) Last More)))
    (Err BadJournal)

-- the same into bytes of which there are so many
unfoldable pub lay_room : ℕ → Result Laid JournalError → Result Laid NotLaid
lay_room bytes (Err e) = Err (Denied e)
lay_room bytes (Ok l) = cond (ltb bytes 512) (Err NoRoom) (Ok l)

unfoldable pub lays_into : ℕ → Title → ℕ → List ℕ → Result Laid NotLaid
lays_into bytes k i ws = lay_room bytes (lays k i ws)

-- a block that is laid stands first, and what stood behind it is kept; where none is laid, all is
unfoldable pub lay_after : Result Laid NotLaid → Title → ℕ → List ℕ → List ℕ → List ℕ
lay_after (Err e) k i ws out = out
lay_after (Ok l) k i ws out = block_laid k i ws ++ drop 512 out
