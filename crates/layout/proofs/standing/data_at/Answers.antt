-- `layout::standing::data_at`: each field is what stands at its place. Assumes nothing.
use Rattle.seats.specs.Set.{of_bits}
use Rattle.rounds.specs.With.{data_of}
use Rattle.layout.proofs.standing.data_at.Goals as goal

pub returns : goal.returns
returns c =
    λ i.
    data_of
    (of_bits (c.set_at.ensures i))
    (of_bits (c.set_at-2.ensures i))
    (c.float_at.ensures i)
    (c.float_at-2.ensures i)
    (c.sixteen_at-player_bet.ensures i)
    (c.number_at.ensures i)
    (c.byte_at.ensures i)
    (c.byte_at-2.ensures i)
    (c.byte_at-3.ensures i)
    (c.number_at-2.ensures i)
