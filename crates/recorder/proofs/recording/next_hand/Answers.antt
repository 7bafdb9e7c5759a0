-- `recorder::recording::next_hand`: the next `t` is found, or the script ends; then its line and those that follow are laid. Assumes nothing.
use Rattle.recorder.proofs.LawsTaken.{none_found, hand-found}
use Rattle.recorder.proofs.recording.next_hand.Goals as goal

pub returns-then-script-from : goal.returns-then-script-from
returns-then-script-from c =
    let a = c.args in
    let t' = none_found a.script.now a.at a.state a.tape.now c.next_table-p.ensures c.if-script-from.true in record { value = t'.0; tape_after = t'.1 }

pub returns : goal.returns
returns c =
    let a = c.args in
    let t' = hand-found a.script.now a.at a.state a.tape.now c.next_table-p.ensures c.if-script-from.false c.read_line-read.ensures c.obey-act.ensures
    c.lay-first.ensures.value c.lay-first.ensures.tape_after c.fill.ensures.value c.fill.ensures.tape_after in record { value = t'.0; tape_after = t'.1 }
