-- `peatcloak::settling::peatcloak_settle`: the settlement of the table that stands there, laid, and its rewards where it is accepted. Assumes nothing.
use Rattle.peatcloak.proofs.LawsSettled.{rewards-room, settled-out, not-settled, settles-nothing, words-are}
use Rattle.peatcloak.proofs.settling.peatcloak_settle.Goals as goal

pub lay_rewards-requires : goal.lay_rewards-requires
lay_rewards-requires c =
    let a = c.args in
    rewards-room a.floats.now a.numbers.now _ c.stands.ensures a.ranks.now a.rewards.now c.if-room-stands.true

pub returns-then-number-eq0 : goal.returns-then-number-eq0
returns-then-number-eq0 c =
    let a = c.args in
    let t' = settled-out a.floats.now a.numbers.now _ c.stands.ensures a.ranks.now a.rewards.now c.if-room-stands.true _ c.table-t.ensures _ _ c.settle-s.ensures c.ranks_of-list.ensures _ _ _ (c.lay_verdict-number.ensures.value, (c.lay_verdict-number.ensures.floats_after, (c.lay_verdict-number.ensures.numbers_after, c.lay_verdict-number.ensures.stands))) _ c.if-number-eq0.true c.lay_rewards.ensures in record { value = t'.0; floats_after = t'.1.0; numbers_after = t'.1.1.0; rewards_after = t'.1.1.1.0; stands = t'.1.1.1.1; words = words-are a.floats.now a.numbers.now _ c.stands.ensures a.ranks.now a.rewards.now t' }

pub returns-then-room-stands : goal.returns-then-room-stands
returns-then-room-stands c =
    let a = c.args in
    let t' = not-settled a.floats.now a.numbers.now _ c.stands.ensures a.ranks.now a.rewards.now c.if-room-stands.true _ c.table-t.ensures _ _ c.settle-s.ensures c.ranks_of-list.ensures _ _ _ (c.lay_verdict-number.ensures.value, (c.lay_verdict-number.ensures.floats_after, (c.lay_verdict-number.ensures.numbers_after, c.lay_verdict-number.ensures.stands))) c.if-number-eq0.false in record { value = t'.0; floats_after = t'.1.0; numbers_after = t'.1.1.0; rewards_after = t'.1.1.1.0; stands = t'.1.1.1.1; words = words-are a.floats.now a.numbers.now _ c.stands.ensures a.ranks.now a.rewards.now t' }

pub returns : goal.returns
returns c =
    let a = c.args in
    let t' = settles-nothing a.floats.now a.numbers.now _ c.stands.ensures a.ranks.now a.rewards.now c.if-room-stands.false in record { value = t'.0; floats_after = t'.1.0; numbers_after = t'.1.1.0; rewards_after = t'.1.1.1.0; stands = t'.1.1.1.1; words = words-are a.floats.now a.numbers.now _ c.stands.ensures a.ranks.now a.rewards.now t' }
