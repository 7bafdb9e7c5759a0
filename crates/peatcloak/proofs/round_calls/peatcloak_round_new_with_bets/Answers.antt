-- `peatcloak::round_calls::peatcloak_round_new_with_bets`: the new round data laid where there is room. Assumes nothing.
use mathlib.Core.Path.{sym, ◌∙◌}
use Rattle.seats.specs.Set.{of_bits}
use Rattle.rounds.specs.Steps.{with_bets_of}
use Rattle.peatcloak.proofs.LawsDataFits.{with-bets-fits}
use Rattle.peatcloak.proofs.LawsRounds.{can-step, cannot_step}
use Rattle.peatcloak.proofs.round_calls.peatcloak_round_new_with_bets.Goals as goal

pub returns-then-is_room : goal.returns-then-is_room
returns-then-is_room c =
    let a = c.args in
    let t' = can-step a.floats.now a.numbers.now _ (with_bets_of a.min_raise (of_bits a.active) a.to_act a.bets.now) _ _ _ _ (λ h. h) (with-bets-fits a.min_raise a.active a.to_act a.bets.now) (sym c.is_room.ensures ∙ c.if-is_room.true) c.new_with_bets-step.ensures (c.lay_round.ensures.value, (c.lay_round.ensures.floats_after, c.lay_round.ensures.numbers_after)) in record { value = t'.0; floats_after = t'.1.0; numbers_after = t'.1.1.0; stands = t'.1.1.1 }

pub returns : goal.returns
returns c =
    let a = c.args in
    let t' = cannot_step a.floats.now a.numbers.now _ _ (sym c.is_room.ensures ∙ c.if-is_room.false) in record { value = t'.0; floats_after = t'.1.0; numbers_after = t'.1.1.0; stands = t'.1.1.1 }
