-- `peatcloak::peatcloak_fold`: the fold in place on a sound table, and 19 else. Assumes nothing.
use Rattle.table.specs.Pay.{fold_of}
use Rattle.layout.specs.Standing.{table_at}
use Rattle.peatcloak.specs.Calls.{stepped}
use Rattle.peatcloak.proofs.LawsCalls.{on-table, sound-asked, in_place, step_unsound}
use Rattle.peatcloak.proofs.LawsFold.{fold-bad}
use Rattle.peatcloak.proofs.peatcloak_fold.Goals as goal

pub fold_at-requires : goal.fold_at-requires
fold_at-requires c = let t' = in_place c.args.floats.now c.args.numbers.now _ c.stands_sound.ensures c.if-stands_sound.true in record { in_bounds = t'.0; in_bounds_2 = t'.1.0; numbers_value = t'.1.1.0; numbers_value_2 = t'.1.1.1 }

pub returns-then-stands_sound : goal.returns-then-stands_sound
returns-then-stands_sound c =
    let fs = c.args.floats.now in
    let ns = c.args.numbers.now in
    let t' = on-table fs ns (stepped (fold_of (table_at fs ns))) _ _ _ (sound-asked fs ns _ c.stands_sound.ensures c.if-stands_sound.true).0 (c.fold_at.ensures.value, (c.fold_at.ensures.floats_after, (c.fold_at.ensures.numbers_after, c.fold_at.ensures.stands))) in record { value = t'.0; floats_after = t'.1.0; numbers_after = t'.1.1.0; stands = t'.1.1.1 }

pub returns : goal.returns
returns c =
    let fs = c.args.floats.now in
    let ns = c.args.numbers.now in
    let t' = step_unsound fs ns _ c.stands_sound.ensures (fold_of (table_at fs ns)) c.if-stands_sound.false (fold-bad (table_at fs ns)) in record { value = t'.0; floats_after = t'.1.0; numbers_after = t'.1.1.0; stands = t'.1.1.1 }
