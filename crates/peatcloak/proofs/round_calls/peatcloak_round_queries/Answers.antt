-- `peatcloak::round_calls::peatcloak_round_queries`: what the round data that was read answers. Assumes nothing.
use lib.Ieee.{nan}
use mathlib.Core.Bool.{◌&&◌}
use mathlib.Core.Path.{refl, ap}
use Rattle.std.specs.Result.{is_ok}
use Rattle.layout.specs.Standing.{data_read_of}
use Rattle.peatcloak.proofs.LawsRounds.{told-all, told_none}
use Rattle.peatcloak.proofs.round_calls.peatcloak_round_queries.Goals as goal

pub returns-in-Ok : goal.returns-in-Ok
returns-in-Ok c =
    let a = c.args in
    let t' = told-all a.floats.now a.numbers.now _ c.read_data.ensures a.amounts.now a.answers.now _ _ _ _ _ c.if-amounts-answers.true c.in-Ok.is c.amounts_of-told.ensures c.answers_of-said.ensures (c.copy.ensures nan) (c.copy-in-Ok.ensures 0) in record { value = t'.0; amounts_after = t'.1.0; answers_after = t'.1.1 }

pub returns-in_default : goal.returns-in_default
returns-in_default c =
    let a = c.args in
    let t' = told_none a.floats.now a.numbers.now _ c.read_data.ensures a.amounts.now a.answers.now (λ i. c.if-amounts-answers.true i && is_ok (c.in_default.is i)) in record { value = t'.0; amounts_after = t'.1.0; answers_after = t'.1.1 }

pub returns-else-amounts-answers : goal.returns-else-amounts-answers
returns-else-amounts-answers c =
    let a = c.args in
    let t' = told_none a.floats.now a.numbers.now (data_read_of a.floats.now a.numbers.now) refl a.amounts.now a.answers.now (λ i. c.if-amounts-answers.false i && is_ok (data_read_of a.floats.now a.numbers.now)) in record { value = t'.0; amounts_after = t'.1.0; answers_after = t'.1.1 }
