-- `peatcloak::journal_replay::tell_lines`: nothing is told where the number is 27. Assumes nothing.
use borrow.Author.Tests.{eq-eqb, ne_eqb}
use Rattle.peatcloak.specs.Replaying.{lines_told}
use Rattle.peatcloak.proofs.journal_replay.tell_lines.Goals as goal

pub returns-then-number-ne27 : goal.returns-then-number-ne27
unfolding lines_told
returns-then-number-ne27 c =
    simp (ne_eqb _ _ c.if-number-ne27.true, c.tell.ensures, c.word_of.ensures)

pub returns-else-number-ne27 : goal.returns-else-number-ne27
unfolding lines_told
returns-else-number-ne27 c = simp (eq-eqb _ _ c.if-number-ne27.false)
