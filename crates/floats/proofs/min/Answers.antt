-- `floats::min`: each arm is what the definition picks at the tests that led there. Assumes nothing.
use mathlib.Core.Path.{sym, ◌∙◌}
use Rattle.floats.specs.Helpers.{min_of}
use Rattle.floats.proofs.min.Goals as goal

pub returns-then-is_nan : goal.returns-then-is_nan
unfolding min_of
returns-then-is_nan c = simp (sym c.is_nan.ensures ∙ c.if-is_nan.true)

pub returns-then-b-a : goal.returns-then-b-a
unfolding min_of
returns-then-b-a c = simp (sym c.is_nan.ensures ∙ c.if-is_nan.false, c.if-b-a.true)

pub returns-else-b-a : goal.returns-else-b-a
unfolding min_of
returns-else-b-a c = simp (sym c.is_nan.ensures ∙ c.if-is_nan.false, c.if-b-a.false)
