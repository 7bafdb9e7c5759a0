-- `layout::standing::table_at`: each field is what stands at its place. Assumes nothing.
use Rattle.table.specs.With.{table_of}
use Rattle.layout.proofs.standing.table_at.Goals as goal

pub returns : goal.returns
returns c =
    λ i.
    table_of
    (c.number_at.ensures i)
    (c.set_at.ensures i)
    (c.set_at-2.ensures i)
    (c.float_at.ensures i)
    (c.sixteen_at-stacks.ensures i)
    (c.sixteen_at-starting_stacks.ensures i)
    (c.sixteen_at-player_bet.ensures i)
    (c.sixteen_at-player_winnings.ensures i)
    (c.float_at-2.ensures i)
    (c.float_at-3.ensures i)
    (c.float_at-4.ensures i)
    (c.number_at-2.ensures i)
    (c.round_at-round.ensures i)
    (c.round_at-round_before.ensures i)
    (c.data_at-round_data.ensures i)
    (c.board_at-board.ensures i)
    (c.number_at-3.ensures i)
    (c.flag_at.ensures i)
    (c.flag_at-2.ensures i)
    (c.flag_at-3.ensures i)
    (c.byte_at.ensures i)
    (c.at-added.ensures i)
