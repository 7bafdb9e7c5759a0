-- `peatcloak::journal_calls::peatcloak_put_line`: where out has a place, the line laid and told. Assumes nothing.
use Rattle.peatcloak.proofs.LawsWriting.{put-done, put-nothing}
use Rattle.peatcloak.proofs.journal_calls.peatcloak_put_line.Goals as goal

pub returns-then-out-ge1 : goal.returns-then-out-ge1
returns-then-out-ge1 c =
    let a = c.args in
    let t' = put-done a.tape.now a.used a.letter a.numbers.now a.out.now _ _ _ _ _ c.if-out-ge1.true c.letter_of.ensures c.put_line-put.ensures.answer c.put_line-put.ensures.tape c.tell_put.ensures.value c.tell_put.ensures.out_after in record { value = t'.0; tape_after = t'.1.0; out_after = t'.1.1 }

pub returns : goal.returns
returns c =
    let a = c.args in
    let t' = put-nothing a.tape.now a.used a.letter a.numbers.now a.out.now c.if-out-ge1.false in record { value = t'.0; tape_after = t'.1.0; out_after = t'.1.1 }
