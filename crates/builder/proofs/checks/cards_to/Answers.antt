-- `builder::checks::cards_to`: a copy from the front to the front. Assumes nothing.
use mathlib.Core.Path.{◌∙◌}
use Rattle.builder.proofs.Building.{cards-copied}
use Rattle.builder.proofs.checks.cards_to.Goals as goal

pub returns : goal.returns
returns c = c.copy.ensures 0 ∙ cards-copied c.args.s.now c.args.n
