-- `peatcloak::seat_calls::peatcloak_seats_disable`: the step of the set, as a word. Assumes nothing.
use Rattle.peatcloak.proofs.seat_calls.peatcloak_seats_disable.Goals as goal

pub returns : goal.returns
returns c =
    rw (c.set_word.ensures, c.disable.ensures)
