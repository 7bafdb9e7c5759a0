-- `peatcloak::seat_calls::peatcloak_seats_empty`: the test of the set, as a word. Assumes nothing.
use Rattle.peatcloak.proofs.seat_calls.peatcloak_seats_empty.Goals as goal

pub returns : goal.returns
returns c =
    rw (c.word_of_flag.ensures, c.empty.ensures)
