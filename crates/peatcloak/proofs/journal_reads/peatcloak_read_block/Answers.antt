-- `peatcloak::journal_reads::peatcloak_read_block`: where head is long enough, what was read is told. Assumes nothing.
use Rattle.peatcloak.proofs.LawsReading.{block-told, block_untold}
use Rattle.peatcloak.proofs.journal_reads.peatcloak_read_block.Goals as goal

pub returns-then-head-ge7 : goal.returns-then-head-ge7
returns-then-head-ge7 c =
    let a = c.args in
    let t' = block-told a.bytes.now a.head.now _ _ _ c.if-head-ge7.true c.read_block-read.ensures c.tell_block.ensures.value c.tell_block.ensures.head_after in record { value = t'.0; head_after = t'.1 }

pub returns : goal.returns
returns c =
    let a = c.args in
    let t' = block_untold a.bytes.now a.head.now c.if-head-ge7.false in record { value = t'.0; head_after = t'.1 }
