-- `peatcloak::round_calls::peatcloak_round_new`: the new round data laid where there is room. Assumes nothing.
use mathlib.Core.Path.{sym, ◌∙◌}
use Rattle.seats.specs.Set.{of_bits}
use Rattle.rounds.specs.Steps.{new_of}
use Rattle.peatcloak.proofs.LawsDataFits.{new-fits}
use Rattle.peatcloak.proofs.LawsRounds.{can-step, cannot_step}
use Rattle.peatcloak.proofs.round_calls.peatcloak_round_new.Goals as goal

pub returns-then-is_room : goal.returns-then-is_room
returns-then-is_room c =
    let a = c.args in
    let t' = can-step a.floats.now a.numbers.now _ (new_of a.num_players a.min_raise (of_bits a.active) a.to_act) _ _ _ _ (λ h. h) (new-fits a.min_raise a.active a.to_act a.num_players) (sym c.is_room.ensures ∙ c.if-is_room.true) c.new-step.ensures (c.lay_round.ensures.value, (c.lay_round.ensures.floats_after, c.lay_round.ensures.numbers_after)) in record { value = t'.0; floats_after = t'.1.0; numbers_after = t'.1.1.0; stands = t'.1.1.1 }

pub returns : goal.returns
returns c =
    let a = c.args in
    let t' = cannot_step a.floats.now a.numbers.now _ _ (sym c.is_room.ensures ∙ c.if-is_room.false) in record { value = t'.0; floats_after = t'.1.0; numbers_after = t'.1.1.0; stands = t'.1.1.1 }
