-- `peatcloak::asking::peatcloak_player_reward`: what the table that stands there answers. Assumes nothing.
use mathlib.Core.Path.{◌∙◌}
use native.Mathlib.Omega.{arith}
use Rattle.peatcloak.proofs.LawsAsked.{one_place, rewarded, unrewarded, no_reward}
use Rattle.peatcloak.proofs.asking.peatcloak_player_reward.Goals as goal

pub bounds-out-0 : goal.bounds-out-0
bounds-out-0 c =
    let a = c.args in
    omega (arith, one_place a.floats.now a.numbers.now _ c.stands.ensures a.player_idx a.out.now c.if-out-stands.true)

pub returns-in-Ok : goal.returns-in-Ok
returns-in-Ok c =
    let a = c.args in
    let t' = rewarded a.floats.now a.numbers.now _ c.stands.ensures a.player_idx a.out.now c.if-out-stands.true _ c.table-t.ensures _ c.player_reward.ensures _ c.in-Ok.is in record { value = t'.0; out_after = t'.1 }

pub returns-in-Err : goal.returns-in-Err
returns-in-Err c =
    let a = c.args in
    let t' = unrewarded a.floats.now a.numbers.now _ c.stands.ensures a.player_idx a.out.now c.if-out-stands.true _ c.table-t.ensures _ c.player_reward.ensures _ _ c.in-Err.is (c.word_of_byte.ensures.value ∙ c.number.ensures) in record { value = t'.0; out_after = t'.1 }

pub returns : goal.returns
returns c =
    let a = c.args in
    let t' = no_reward a.floats.now a.numbers.now _ c.stands.ensures a.player_idx a.out.now c.if-out-stands.false in record { value = t'.0; out_after = t'.1 }
