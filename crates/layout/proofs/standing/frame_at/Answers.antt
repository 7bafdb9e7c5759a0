-- `layout::standing::frame_at`: each field is what stands at its place. Assumes nothing.
use Rattle.layout.proofs.standing.frame_at.Goals as goal

pub returns : goal.returns
returns c =
    λ i. record {
      seats = c.number_at.ensures i;
      round_seats = c.number_at-2.ensures i;
      dealer = c.number_at-3.ensures i;
      to_act = c.number_at-4.ensures i;
      active = c.set_at.ensures i;
      all_in = c.set_at-2.ensures i;
      owing = c.set_at-3.ensures i;
      starting = c.set_at-4.ensures i;
      cards = c.number_at-5.ensures i;
      board = c.board_at-board.ensures i;
      added = c.at-added.ensures i;
    }
