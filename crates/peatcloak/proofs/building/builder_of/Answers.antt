-- `peatcloak::building::builder_of`: each field is what the lists tell of it. Assumes nothing.
use mathlib.Core.Path.{◌∙◌}
use Rattle.std.specs.Bool.{then_some}
use Rattle.builder.specs.Setters.{builder_of}
use Rattle.peatcloak.specs.Building.{amounts_given, board_given, data_given}
use Rattle.peatcloak.proofs.building.builder_of.Goals as goal

pub returns : goal.returns
returns c =
    let a = c.args in
    λ i.
    builder_of
    ((c.amounts_of-the_stacks.ensures ∙ λ j. amounts_given (c.flag_at.ensures j) a.stacks.now) i)
    ((c.then_some.ensures ∙ λ j. then_some (c.flag_at-6.ensures j) (c.float_at.ensures j)) i)
    ((c.then_some-2.ensures ∙ λ j. then_some (c.flag_at-7.ensures j) (c.float_at-2.ensures j)) i)
    ((c.then_some-3.ensures ∙ λ j. then_some (c.flag_at-8.ensures j) (c.float_at-3.ensures j)) i)
    ((c.then_some-4.ensures ∙ λ j. then_some (c.flag_at-9.ensures j) (c.number_at.ensures j)) i)
    ((c.then_some-5.ensures ∙ λ j. then_some (c.flag_at-10.ensures j) (record { capped = c.flag_at-5.ensures j; value = c.byte_at.ensures j })) i)
    ((c.then_some-6.ensures ∙ λ j. then_some (c.flag_at-11.ensures j) (c.round_at.ensures j)) i)
    ((c.board_of-the_board.ensures ∙ λ j. board_given (c.flag_at-3.ensures j) a.board.now) i)
    ((c.then_some-7.ensures ∙ λ j. then_some (c.flag_at-12.ensures j) (c.number_at-2.ensures j)) i)
    ((c.amounts_of-the_bets.ensures ∙ λ j. amounts_given (c.flag_at-2.ensures j) a.player_bet.now) i)
    ((c.data_of-data.ensures ∙ λ j. data_given (c.flag_at-4.ensures j) a.floats.now a.numbers.now) i)
    (c.of.ensures i)
