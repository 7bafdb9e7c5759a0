-- `peatcloak::journal_reads::peatcloak_read_hand`: where head is long enough, what was read is told. Assumes nothing.
use Rattle.peatcloak.proofs.LawsReading.{hand-told, hand_untold}
use Rattle.peatcloak.proofs.journal_reads.peatcloak_read_hand.Goals as goal

pub returns-then-head-ge6 : goal.returns-then-head-ge6
returns-then-head-ge6 c =
    let a = c.args in
    let t' = hand-told a.bytes.now a.head.now _ _ _ c.if-head-ge6.true c.read_hand-read.ensures c.tell_hand.ensures.value c.tell_hand.ensures.head_after in record { value = t'.0; head_after = t'.1 }

pub returns : goal.returns
returns c =
    let a = c.args in
    let t' = hand_untold a.bytes.now a.head.now c.if-head-ge6.false in record { value = t'.0; head_after = t'.1 }
