-- `peatcloak::building::board_of`: the cards as the builder keeps them. Assumes nothing.
use Rattle.peatcloak.proofs.building.board_of.Goals as goal

pub returns-then-given : goal.returns-then-given
returns-then-given c = simp (c.if-given.true, c.board.ensures)

pub returns : goal.returns
returns c = rw c.if-given.false
