-- R18.4: what is read of a block. Definitions only.
use Rattle.std.specs.Prelude.{ℕ, cond, List, Result, Ok, Err, eqb}
use Rattle.journal.specs.Check.{byte}
use Rattle.journal.specs.Block.{title_at, block_ok}
use Rattle.journal.specs.declared.block.Head.{Head}
use Rattle.refusals.specs.declared.JournalError.{JournalError}
use Rattle.refusals.specs.declared.JournalError.TheVariants.{BadJournal}

abbrev pub head_at : List ℕ → Head
head_at b = record { title = title_at b; index = byte b 8; last = eqb (byte b 9) 1; used = byte b 10 }

unfoldable pub read_of : List ℕ → Result Head JournalError
read_of b = cond (block_ok b) (Ok (head_at b)) (Err BadJournal)
