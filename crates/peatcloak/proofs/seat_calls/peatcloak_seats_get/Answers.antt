-- `peatcloak::seat_calls::peatcloak_seats_get`: the step of the set, as a word. Assumes nothing.
use Rattle.peatcloak.proofs.seat_calls.peatcloak_seats_get.Goals as goal

pub returns : goal.returns
returns c =
    rw (c.seat_word.ensures, c.get.ensures)
