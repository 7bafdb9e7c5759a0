-- `peatcloak::peatcloak_complete`: the step of the table that stands there, laid. Assumes nothing.
use Rattle.table.specs.Rounds.{complete_of}
use Rattle.table.proofs.LawsSound.{complete-accepted}
use Rattle.peatcloak.proofs.LawsCalls.{step-done, step-nothing}
use Rattle.peatcloak.proofs.peatcloak_complete.Goals as goal

pub returns-then-stands : goal.returns-then-stands
returns-then-stands c =
    let a = c.args in
    let t' = step-done a.floats.now a.numbers.now _ c.stands.ensures complete_of _ _ _ _ _ c.if-stands.true c.table-t.ensures c.complete.ensures complete-accepted (c.lay_step.ensures.value, (c.lay_step.ensures.floats_after, (c.lay_step.ensures.numbers_after, c.lay_step.ensures.stands))) in record { value = t'.0; floats_after = t'.1.0; numbers_after = t'.1.1.0; stands = t'.1.1.1 }

pub returns : goal.returns
returns c =
    let a = c.args in
    let t' = step-nothing a.floats.now a.numbers.now _ c.stands.ensures _ c.if-stands.false in record { value = t'.0; floats_after = t'.1.0; numbers_after = t'.1.1.0; stands = t'.1.1.1 }
