-- `peatcloak::journal_calls::peatcloak_write_hand`: where out has a place and the title is in range, the hand written and told. Assumes nothing.
use Rattle.peatcloak.proofs.LawsWriting.{hand-done, hand-nothing}
use Rattle.peatcloak.proofs.journal_calls.peatcloak_write_hand.Goals as goal

pub returns-then-out-title_fits : goal.returns-then-out-title_fits
returns-then-out-title_fits c =
    let a = c.args in
    let t' = hand-done a.title.now a.tape.now a.bytes.now a.out.now _ c.title_fits.ensures _ _ _ _ _ c.if-out-title_fits.true c.title_of-of.ensures c.write_hand-written.ensures.answer c.write_hand-written.ensures.bytes c.tell_hand.ensures.value c.tell_hand.ensures.out_after in record { value = t'.0; bytes_after = t'.1.0; out_after = t'.1.1 }

pub returns : goal.returns
returns c =
    let a = c.args in
    let t' = hand-nothing a.title.now a.tape.now a.bytes.now a.out.now _ c.title_fits.ensures c.if-out-title_fits.false in record { value = t'.0; bytes_after = t'.1.0; out_after = t'.1.1 }
