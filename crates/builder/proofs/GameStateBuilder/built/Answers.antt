-- `builder::GameStateBuilder::built`: each field is what its callee ensures. Assumes nothing.
use mathlib.Core.Path.{◌∙◌}
use lib.Ieee.{of_bits}
use Rattle.builder.specs.Build.{built_of}
use Rattle.builder.proofs.Alike.{is-starting}
use Rattle.builder.proofs.GameStateBuilder.built.Goals as goal

pub returns : goal.returns
unfolding of_bits built_of
returns c =
    rw (c.cards_to.ensures, c.data_for.ensures, c.ante_told.ensures, c.small_blind_or_half.ensures, c.big_blind_told.ensures, c.sum.ensures, c.all_in_seats.ensures, c.active_seats.ensures, c.cap_or_three-cap.ensures, c.board_told-board.ensures, c.unwrap_or-dealer.ensures, c.eq-starting.ensures ∙ is-starting c.round_or_starting-round.result, c.round_or_starting-round.ensures, c.bets_or_none-bets.ensures, c.kept-stacks.ensures, c.stacks_told-given.ensures)
