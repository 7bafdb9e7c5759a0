-- `recorder::recording::put`: by the answer of the journal's `put_line`. Assumes nothing.
use native.Mathlib.Omega.{arith}
use Rattle.recorder.specs.Laying.{after_put}
use Rattle.recorder.proofs.LawsLaying.{used-counted, used_takes, put_so}
use Rattle.recorder.proofs.recording.put.Goals as goal

pub slice_bounds-put_line-end : goal.slice_bounds-put_line-end
slice_bounds-put_line-end c =
    used-counted c.args.count _ _ c.min-used.ensures (omega (arith, c.well_formed))

pub returns-in-Err : goal.returns-in-Err
unfolding after_put
returns-in-Err c = let t' = put_so c.args.f _ _ c.args.tape.now (used_takes c.args.count c.args.numbers _ c.min-used.ensures (omega (arith, c.well_formed))) c.put_line.ensures.answer c.in-Err.is c.put_line.ensures.tape in record { value = t'.0; tape_after = t'.1 }

pub returns-in-Ok : goal.returns-in-Ok
unfolding after_put
returns-in-Ok c = let t' = put_so c.args.f _ _ c.args.tape.now (used_takes c.args.count c.args.numbers _ c.min-used.ensures (omega (arith, c.well_formed))) c.put_line.ensures.answer c.in-Ok.is c.put_line.ensures.tape in record { value = t'.0; tape_after = t'.1 }
