-- `peatcloak::journal_reads::peatcloak_line_at`: where both lists are long enough, the line is told. Assumes nothing.
use Rattle.peatcloak.proofs.LawsReading.{line-told, line_untold}
use Rattle.peatcloak.proofs.journal_reads.peatcloak_line_at.Goals as goal

pub returns-then-line-numbers : goal.returns-then-line-numbers
returns-then-line-numbers c =
    let a = c.args in
    let t' = line-told a.bytes.now a.at a.line.now a.numbers.now _ _ _ _ _ _ c.if-line-numbers.true c.line_at-read.ensures c.word_of_byte.ensures.value c.word_of.ensures c.word_of-then-line-numbers.ensures (c.copy.ensures 0) (c.copy-then-line-numbers.ensures 0) in record { value = t'.0; line_after = t'.1.0; numbers_after = t'.1.1 }

pub returns : goal.returns
returns c =
    let a = c.args in
    let t' = line_untold a.bytes.now a.at a.line.now a.numbers.now c.if-line-numbers.false in record { value = t'.0; line_after = t'.1.0; numbers_after = t'.1.1 }
