-- `peatcloak::journal_words::tell`: past the end nothing is changed. Assumes nothing.
use mathlib.Core.Path.{sym}
use native.Mathlib.Omega.{arith}
use lib.Seq.{set_out}
use borrow.Author.Rules.{rules}
use Rattle.peatcloak.proofs.journal_words.tell.Goals as goal

pub returns-then-out-ge1 : goal.returns-then-out-ge1
returns-then-out-ge1 c = search rules

pub returns-else-out-ge1 : goal.returns-else-out-ge1
returns-else-out-ge1 c = sym (set_out _ _ _ (omega arith))
