-- `layout::laying::lay_floats`: the single amounts and five lists, one after another. Assumes nothing.
use lib.Ieee.{nan}
use mathlib.Core.Path.{ap, ◌∙◌}
use Rattle.layout.specs.Places.{STACKS, STARTING_STACKS, HAND_BETS, WINNINGS, ROUND_BETS}
use Rattle.layout.specs.Laid.{laid_list}
use Rattle.layout.proofs.laying.lay_floats.Goals as goal

pub returns : goal.returns
returns c =
    let t = c.args.t in
    record {
      floats_after = c.lay_list-5.ensures.floats_after
          ∙ ap (laid_list ROUND_BETS t.round_data.player_bet) (c.lay_list-4.ensures.floats_after
          ∙ ap (laid_list WINNINGS t.player_winnings) (c.lay_list-3.ensures.floats_after
          ∙ ap (laid_list HAND_BETS t.player_bet) (c.lay_list-2.ensures.floats_after
          ∙ ap (laid_list STARTING_STACKS t.starting_stacks) (c.lay_list.ensures.floats_after
          ∙ ap (laid_list STACKS t.stacks) (c.copy.ensures nan)))));
      fits = record {
        stacks = c.lay_list.ensures.fits;
        starting = c.lay_list-2.ensures.fits;
        bets = c.lay_list-3.ensures.fits;
        won = c.lay_list-4.ensures.fits;
        round-bets = c.lay_list-5.ensures.fits;
      };
    }
