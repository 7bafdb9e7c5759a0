-- `peatcloak::round_calls::peatcloak_round_advance_action`: the step of the round data that was read, laid. Assumes nothing.
use mathlib.Core.Path.{ap}
use Rattle.std.specs.Result.{is_ok}
use Rattle.peatcloak.proofs.LawsDataFits.{advance-fits}
use Rattle.peatcloak.proofs.LawsRounds.{data_stepped, data_nothing}
use Rattle.rounds.specs.Steps.{advance_of}
use Rattle.peatcloak.proofs.round_calls.peatcloak_round_advance_action.Goals as goal

pub returns-in-Ok : goal.returns-in-Ok
returns-in-Ok c =
    let a = c.args in
    let t' = data_stepped a.floats.now a.numbers.now _ c.read_data.ensures advance_of _ _ _ _ _ (advance-fits a.floats.now a.numbers.now) c.in-Ok.is c.advance_action.ensures (c.lay_round.ensures.value, (c.lay_round.ensures.floats_after, c.lay_round.ensures.numbers_after)) in record { value = t'.0; floats_after = t'.1.0; numbers_after = t'.1.1.0; stands = t'.1.1.1 }

pub returns-in-Err : goal.returns-in-Err
returns-in-Err c =
    let a = c.args in
    let t' = data_nothing a.floats.now a.numbers.now _ c.read_data.ensures _ (ap is_ok c.in-Err.is) in record { value = t'.0; floats_after = t'.1.0; numbers_after = t'.1.1.0; stands = t'.1.1.1 }
