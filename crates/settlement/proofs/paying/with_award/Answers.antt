-- `settlement::paying::with_award`: each way by its test. Assumes nothing.
use Rattle.std.proofs.Common.{eq-eqb, ne_eqb}
use Rattle.settlement.specs.Settlement.{raised}
use Rattle.settlement.proofs.paying.with_award.Goals as goal

pub returns-then-award-eq0 : goal.returns-then-award-eq0
unfolding raised
returns-then-award-eq0 c = rw (eq-eqb _ _ c.if-award-eq0.true)

pub returns : goal.returns
unfolding raised
returns c = rw (c.nearest_u32_to_f32.ensures, ne_eqb _ _ c.if-award-eq0.false)
