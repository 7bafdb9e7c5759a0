-- `peatcloak::building::peatcloak_build`: where the lists tell a builder, what it builds is laid. Assumes nothing.
use mathlib.Core.Path.{sym, ap, ◌∙◌}
use Rattle.builder.specs.Build.{build_of}
use Rattle.peatcloak.proofs.LawsBuild.{build-done, build-nothing}
use Rattle.peatcloak.proofs.building.peatcloak_build.Goals as goal

pub returns-then-is_told : goal.returns-then-is_told
returns-then-is_told c =
    let a = c.args in
    let t' = build-done a.floats.now a.numbers.now a.stacks.now a.player_bet.now a.board.now a.amounts.now a.given.now _ _ _ _ (sym c.is_told.ensures ∙ c.if-is_told.true) (c.build-s.ensures ∙ ap build_of c.builder_of-b.ensures) (c.lay_verdict.ensures.value, (c.lay_verdict.ensures.floats_after, (c.lay_verdict.ensures.numbers_after, c.lay_verdict.ensures.stands))) in record { value = t'.0; floats_after = t'.1.0; numbers_after = t'.1.1.0; stands = t'.1.1.1 }

pub returns : goal.returns
returns c =
    let a = c.args in
    let t' = build-nothing a.floats.now a.numbers.now a.stacks.now a.player_bet.now a.board.now a.amounts.now a.given.now (sym c.is_told.ensures ∙ c.if-is_told.false) in record { value = t'.0; floats_after = t'.1.0; numbers_after = t'.1.1.0; stands = t'.1.1.1 }
