-- `recorder::recording::lay`: the line is put, or nothing changes. Assumes nothing.
use Rattle.recorder.proofs.LawsLaying.{laid_so, not-laid}
use Rattle.recorder.proofs.recording.lay.Goals as goal

pub returns-then-goes-f : goal.returns-then-goes-f
returns-then-goes-f c =
    let a = c.args in
    let t' = laid_so a.goes a.w a.f a.tape.now c.if-goes-f.true c.put.ensures.value c.put.ensures.tape_after in record { value = t'.0; tape_after = t'.1 }

pub returns : goal.returns
returns c = let a = c.args in
    let t' = not-laid a.goes a.w a.f a.tape.now c.if-goes-f.false in record { value = t'.0; tape_after = t'.1 }
