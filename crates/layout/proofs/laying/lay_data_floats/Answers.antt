-- `layout::laying::lay_data_floats`: the two single amounts, then the list. Assumes nothing.
use lib.Ieee.{nan}
use mathlib.Core.Path.{ap, ◌∙◌}
use Rattle.layout.specs.Places.{ROUND_BETS}
use Rattle.layout.specs.Laid.{laid_list}
use Rattle.layout.proofs.laying.lay_data_floats.Goals as goal

pub returns : goal.returns
returns c =
    c.lay_list.ensures.floats_after ∙ ap (laid_list ROUND_BETS c.args.d.player_bet) (c.copy.ensures nan)
