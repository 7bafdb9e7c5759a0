-- `peatcloak::playing::peatcloak_play_table`: by the rows, the table at the end is laid. Assumes nothing.
use mathlib.Core.Path.{ap, ◌∙◌}
use lib.ListN.{length}
use Rattle.std.specs.Prelude.{unwrap_or}
use Rattle.refusals.specs.Rows.{judge}
use Rattle.table.specs.With.{no_table}
use Rattle.console.specs.declared.act.State.{State}
use Rattle.peatcloak.specs.Calls.{judged}
use Rattle.peatcloak.specs.Playing.{play_rows}
use Rattle.peatcloak.proofs.LawsCalls.{same_after}
use Rattle.peatcloak.proofs.LawsPlayed.{table-played}
use Rattle.peatcloak.proofs.playing.peatcloak_play_table.Goals as goal

pub returns : goal.returns
returns c =
    let a = c.args in
    let at = c.end_of-table.result.table in
    let v = c.verdict-verdict.ensures ∙ λ i. judge (play_rows (length a.floats.now) (length a.numbers.now) (length a.script.now) (c.is_some.ensures i)) in
    let t = c.unwrap_or.ensures ∙ λ i. unwrap_or at (c.none.ensures i) in
    let laid = same_after a.floats.now a.numbers.now _ (judged c.verdict-verdict.result (unwrap_or at no_table)) _ _ _ (λ i. judged c.verdict-verdict.result (t i)) (c.lay_verdict.ensures.value, (c.lay_verdict.ensures.floats_after, (c.lay_verdict.ensures.numbers_after, c.lay_verdict.ensures.stands))) in
    let t' = table-played a.floats.now a.numbers.now a.script.now at _ _ _ _ (ap (λ (s : State). s.table) c.end_of-table.ensures) v laid in record { value = t'.0; floats_after = t'.1.0; numbers_after = t'.1.1.0; stands = t'.1.1.1 }
