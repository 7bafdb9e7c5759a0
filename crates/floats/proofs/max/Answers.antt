-- `floats::max`: each arm is what the definition picks at the tests that led there. Assumes nothing.
use mathlib.Core.Path.{sym, ◌∙◌}
use Rattle.floats.specs.Helpers.{max_of}
use Rattle.floats.proofs.max.Goals as goal

pub returns-then-is_nan : goal.returns-then-is_nan
unfolding max_of
returns-then-is_nan c = simp (sym c.is_nan.ensures ∙ c.if-is_nan.true)

pub returns-then-a-b : goal.returns-then-a-b
unfolding max_of
returns-then-a-b c = simp (sym c.is_nan.ensures ∙ c.if-is_nan.false, c.if-a-b.true)

pub returns-else-a-b : goal.returns-else-a-b
unfolding max_of
returns-else-a-b c = simp (sym c.is_nan.ensures ∙ c.if-is_nan.false, c.if-a-b.false)
