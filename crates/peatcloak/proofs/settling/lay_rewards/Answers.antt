-- `peatcloak::settling::lay_rewards`: a copy to the front. Assumes nothing.
use native.Mathlib.Omega.{arith}
use mathlib.Core.Path.{◌∙◌}
use lib.IntN.{pos}
use Rattle.commons.proofs.Filled.{copied-front}
use Rattle.peatcloak.proofs.settling.lay_rewards.Goals as goal

pub returns : goal.returns
returns c =
    c.copy.ensures (pos 0) ∙ copied-front (pos 0) c.args.rewards.now c.args.list 16 16 (omega (arith, c.requires, c.well_formed))
