-- `parts::running::peatcloak_run_bets`: the run of the table that stands there, laid where it is sound. Assumes nothing.
use Rattle.parts.proofs.LawsRun.{run_done, run_nothing}
use Rattle.parts.proofs.running.peatcloak_run_bets.Goals as goal

pub returns-then-stands-is_sound : goal.returns-then-stands-is_sound
returns-then-stands-is_sound c =
    let a = c.args in
    let t' = run_done a.floats.now a.numbers.now a.amounts.now _ c.stands.ensures _ c.table-t.ensures _ c.is_sound.ensures _ _ _ _ c.if-stands-is_sound.true c.run_from-ran.ensures (c.lay.ensures.value, (c.lay.ensures.floats_after, (c.lay.ensures.numbers_after, c.lay.ensures.stands))) in record { value = t'.0; floats_after = t'.1.0; numbers_after = t'.1.1.0; stands = t'.1.1.1 }

pub returns : goal.returns
returns c =
    let a = c.args in
    let t' = run_nothing a.floats.now a.numbers.now a.amounts.now _ c.stands.ensures _ c.table-t.ensures _ c.is_sound.ensures c.if-stands-is_sound.false in record { value = t'.0; floats_after = t'.1.0; numbers_after = t'.1.1.0; stands = t'.1.1.1 }
