-- `peatcloak::round_calls::lay_round`: by the answer. Assumes nothing.
use mathlib.Core.Path.{◌∙◌}
use Rattle.peatcloak.proofs.LawsRounds.{step-laid, step_kept}
use Rattle.peatcloak.proofs.round_calls.lay_round.Goals as goal

pub returns-in-Ok : goal.returns-in-Ok
returns-in-Ok c =
    let a = c.args in
    let t' = step-laid a.floats.now a.numbers.now a.s _ _ _ c.in-Ok.is (c.lay_data.ensures.floats_after, c.lay_data.ensures.numbers_after) in record { value = t'.0; floats_after = t'.1.0; numbers_after = t'.1.1 }

pub returns-in-Err : goal.returns-in-Err
returns-in-Err c =
    let a = c.args in
    let t' = step_kept a.floats.now a.numbers.now a.s _ _ c.in-Err.is (c.word_of_byte.ensures.value ∙ c.number.ensures) in record { value = t'.0; floats_after = t'.1.0; numbers_after = t'.1.1 }
