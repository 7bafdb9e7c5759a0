-- `journal::reading::entry_count`: none without a block, else as the last one says. Assumes nothing.
use native.Mathlib.Omega.{arith}
use Rattle.journal.specs.Hand.{word_count}
use Rattle.journal.proofs.LawsReading.{none-there, some-there}
use Rattle.journal.proofs.reading.entry_count.Goals as goal

pub returns-then-n-lt1 : goal.returns-then-n-lt1
returns-then-n-lt1 c = none-there _ c.if-n-lt1.true

pub overflow_add-result : goal.overflow_add-result
overflow_add-result c = omega arith

pub returns : goal.returns
unfolding word_count
returns c = rw c.from.ensures (some-there _ c.if-n-lt1.false)
