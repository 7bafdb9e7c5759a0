-- `peatcloak::peatcloak_do_bet`: the bet in place on a sound table, and 19 else. Assumes nothing.
use lib.ListN.{length}
use lib.Dec.{eqb}
use mathlib.Core.Bool.{not}
use mathlib.Core.Path.{sym, ◌∙◌}
use Rattle.layout.proofs.LawsRead.{room_of, stands-room}
use Rattle.peatcloak.proofs.LawsBet.{on-bet, no-bet, bad-bet}
use Rattle.peatcloak.proofs.peatcloak_do_bet.Goals as goal

pub bet_at-requires : goal.bet_at-requires
bet_at-requires c =
    let a = c.args in
    record { in_bounds = (room_of (length a.floats.now) (length a.numbers.now) (stands-room a.floats.now a.numbers.now (sym c.stands.ensures ∙ c.if-stands.true))).0; numbers_value = (sym c.is_sound.ensures ∙ c.if-is_sound.true) }

pub returns-then-is_sound : goal.returns-then-is_sound
returns-then-is_sound c =
    let a = c.args in
    let t' = on-bet a.floats.now a.numbers.now a.amount (not (eqb a.is_forced 0)) _ _ _ (sym c.stands.ensures ∙ c.if-stands.true) (c.bet_at.ensures.value, (c.bet_at.ensures.floats_after, (c.bet_at.ensures.numbers_after, c.bet_at.ensures.stands))) in record { value = t'.0; floats_after = t'.1.0; numbers_after = t'.1.1.0; stands = t'.1.1.1 }

pub returns-else-is_sound : goal.returns-else-is_sound
returns-else-is_sound c =
    let a = c.args in
    let there = sym c.stands.ensures ∙ c.if-stands.true in
    let t' = bad-bet a.floats.now a.numbers.now a.amount (not (eqb a.is_forced 0)) there (room_of (length a.floats.now) (length a.numbers.now) (stands-room a.floats.now a.numbers.now there)).1 (sym c.is_sound.ensures ∙ c.if-is_sound.false) in record { value = t'.0; floats_after = t'.1.0; numbers_after = t'.1.1.0; stands = t'.1.1.1 }

pub returns-else-stands : goal.returns-else-stands
returns-else-stands c =
    let a = c.args in
    let t' = no-bet a.floats.now a.numbers.now a.amount (not (eqb a.is_forced 0)) (sym c.stands.ensures ∙ c.if-stands.false) in record { value = t'.0; floats_after = t'.1.0; numbers_after = t'.1.1.0; stands = t'.1.1.1 }
