-- `peatcloak::asking::peatcloak_queries`: what the table that stands there answers. Assumes nothing.
use lib.Ieee.{nan}
use Rattle.peatcloak.proofs.LawsAsked.{told-all, told_none}
use Rattle.peatcloak.proofs.asking.peatcloak_queries.Goals as goal

pub returns-then-room-stands : goal.returns-then-room-stands
returns-then-room-stands c =
    let a = c.args in
    let t' = told-all a.floats.now a.numbers.now _ c.stands.ensures a.player_idx a.amounts.now a.answers.now _ _ _ _ _ c.if-room-stands.true c.table-t.ensures c.amounts_of-told.ensures c.answers_of-said.ensures (c.copy.ensures nan) (c.copy-then-room-stands.ensures 0) in record { value = t'.0; amounts_after = t'.1.0; answers_after = t'.1.1 }

pub returns : goal.returns
returns c =
    let a = c.args in
    let t' = told_none a.floats.now a.numbers.now _ c.stands.ensures a.player_idx a.amounts.now a.answers.now c.if-room-stands.false in record { value = t'.0; amounts_after = t'.1.0; answers_after = t'.1.1 }
