-- `chips::chips_in`: a whole amount lies where the cast gives its whole part. Assumes nothing.
use Rattle.std.proofs.Common.{sym, ◌∙◌, arith}
use Rattle.chips.specs.Whole.{chips_in}
use Rattle.chips.proofs.Whole.{whole-between, castable, cast_is, part-le}
use Rattle.chips.proofs.chips_in.Goals as goal

pub truncating_f32_to_u64-requires : goal.truncating_f32_to_u64-requires
truncating_f32_to_u64-requires c =
    let b = castable _ (whole-between _ (sym c.is_whole.ensures ∙ c.if-is_whole.true)) in
    record { lower_bound = b.0; upper_bound = b.1 }

pub overflow_cast-result : goal.overflow_cast-result
overflow_cast-result c =
    let b = whole-between _ (sym c.is_whole.ensures ∙ c.if-is_whole.true) in
    record { fits = omega (arith, c.truncating_f32_to_u64.ensures ∙ cast_is _ b, part-le _ b) }

pub returns-then-is_whole : goal.returns-then-is_whole
unfolding chips_in
returns-then-is_whole c =
    let w = sym c.is_whole.ensures ∙ c.if-is_whole.true in
    rw w (c.truncating_f32_to_u64.ensures ∙ cast_is _ (whole-between _ w))

pub returns : goal.returns
unfolding chips_in
returns c = simp (sym c.is_whole.ensures ∙ c.if-is_whole.false)
