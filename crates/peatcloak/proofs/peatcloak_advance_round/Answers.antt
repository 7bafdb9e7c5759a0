-- `peatcloak::peatcloak_advance_round`: the next round in place on a sound table, and 19 else. Assumes nothing.
use Rattle.table.specs.Rounds.{advance_of}
use Rattle.layout.specs.Standing.{table_at}
use Rattle.peatcloak.specs.Calls.{stepped}
use Rattle.peatcloak.proofs.LawsCalls.{on-table, sound-asked, in_place, step_unsound}
use Rattle.peatcloak.proofs.LawsNextRound.{advance-bad}
use Rattle.peatcloak.proofs.peatcloak_advance_round.Goals as goal

pub advance_at-requires : goal.advance_at-requires
advance_at-requires c = let t' = in_place c.args.floats.now c.args.numbers.now _ c.stands_sound.ensures c.if-stands_sound.true in record { in_bounds = t'.0; in_bounds_2 = t'.1.0; numbers_value = t'.1.1.0; numbers_value_2 = t'.1.1.1 }

pub returns-then-stands_sound : goal.returns-then-stands_sound
returns-then-stands_sound c =
    let fs = c.args.floats.now in
    let ns = c.args.numbers.now in
    let t' = on-table fs ns (stepped (advance_of (table_at fs ns))) _ _ _ (sound-asked fs ns _ c.stands_sound.ensures c.if-stands_sound.true).0 (c.advance_at.ensures.value, (c.advance_at.ensures.floats_after, (c.advance_at.ensures.numbers_after, c.advance_at.ensures.stands))) in record { value = t'.0; floats_after = t'.1.0; numbers_after = t'.1.1.0; stands = t'.1.1.1 }

pub returns : goal.returns
returns c =
    let fs = c.args.floats.now in
    let ns = c.args.numbers.now in
    let t' = step_unsound fs ns _ c.stands_sound.ensures (advance_of (table_at fs ns)) c.if-stands_sound.false (advance-bad (table_at fs ns)) in record { value = t'.0; floats_after = t'.1.0; numbers_after = t'.1.1.0; stands = t'.1.1.1 }
