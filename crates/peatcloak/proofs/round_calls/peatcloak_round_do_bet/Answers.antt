-- `peatcloak::round_calls::peatcloak_round_do_bet`: the step of the round data that was read, laid. Assumes nothing.
use lib.Dec.{eqb}
use mathlib.Core.Bool.{not}
use mathlib.Core.Path.{ap}
use Rattle.std.specs.Result.{is_ok}
use Rattle.peatcloak.proofs.LawsDataFits.{bet-fits}
use Rattle.peatcloak.proofs.LawsRounds.{data_stepped, data_nothing}
use Rattle.rounds.specs.Steps.{bet_of}
use Rattle.peatcloak.proofs.round_calls.peatcloak_round_do_bet.Goals as goal

pub returns-in-Ok : goal.returns-in-Ok
returns-in-Ok c =
    let a = c.args in
    let t' = data_stepped a.floats.now a.numbers.now _ c.read_data.ensures (λ d. bet_of d a.extra_amount (not (eqb a.is_forced 0))) _ _ _ _ _ (bet-fits a.floats.now a.numbers.now a.extra_amount (not (eqb a.is_forced 0))) c.in-Ok.is c.do_bet.ensures (c.lay_round.ensures.value, (c.lay_round.ensures.floats_after, c.lay_round.ensures.numbers_after)) in record { value = t'.0; floats_after = t'.1.0; numbers_after = t'.1.1.0; stands = t'.1.1.1 }

pub returns-in-Err : goal.returns-in-Err
returns-in-Err c =
    let a = c.args in
    let t' = data_nothing a.floats.now a.numbers.now _ c.read_data.ensures _ (ap is_ok c.in-Err.is) in record { value = t'.0; floats_after = t'.1.0; numbers_after = t'.1.1.0; stands = t'.1.1.1 }
