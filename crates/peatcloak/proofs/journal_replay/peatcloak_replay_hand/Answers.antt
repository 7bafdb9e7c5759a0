-- `peatcloak::journal_replay::peatcloak_replay_hand`: where there is room, the hand played again, told and laid. Assumes nothing.
use native.Mathlib.Omega.{arith}
use mathlib.Core.Path.{◌∙◌}
use lib.Ieee.{of_bits}
use Rattle.std.specs.Prelude.{unwrap_or}
use Rattle.floats.specs.Helpers.{zerof}
use Rattle.layout.specs.Outcome.{outcome}
use Rattle.peatcloak.specs.Replaying.{again, lines_told}
use Rattle.peatcloak.proofs.LawsCalls.{same_after}
use Rattle.peatcloak.proofs.LawsReplayed.{replay_done, replay_nothing}
use Rattle.peatcloak.proofs.journal_replay.peatcloak_replay_hand.Goals as goal

pub returns-then-out-room : goal.returns-then-out-room
unfolding of_bits
returns-then-out-room c =
    let a = c.args in
    let table = c.unwrap_or-table.ensures ∙ λ i. unwrap_or c.replay_hand-played.result.state.table (c.none.ensures i) in
    let laid = same_after a.floats.now a.numbers.now _ (again c.replay_hand-played.result) _ _ _ (λ i. outcome (c.number-number.ensures i) (table i) zerof 0) (c.lay.ensures.value, (c.lay.ensures.floats_after, (c.lay.ensures.numbers_after, c.lay.ensures.stands))) in
    let t' = replay_done a.floats.now a.numbers.now a.bytes.now a.out.now (λ i. omega (arith, c.shared_slice_known-1.given i)) c.if-out-room.true _ _ _ _ _ c.replay_hand-played.ensures laid (c.tell_lines.ensures ∙ λ i. lines_told (c.number-number.ensures i) c.replay_hand-played.result.lines a.out.now) in record { value = t'.0; floats_after = t'.1.0; numbers_after = t'.1.1.0; out_after = t'.1.1.1.0; stands = t'.1.1.1.1 }

pub returns : goal.returns
returns c =
    let a = c.args in
    let t' = replay_nothing a.floats.now a.numbers.now a.bytes.now a.out.now c.if-out-room.false in record { value = t'.0; floats_after = t'.1.0; numbers_after = t'.1.1.0; out_after = t'.1.1.1.0; stands = t'.1.1.1.1 }
