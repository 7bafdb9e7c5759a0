-- `peatcloak::seat_calls::peatcloak_seats_enable`: the step of the set, as a word. Assumes nothing.
use Rattle.peatcloak.proofs.seat_calls.peatcloak_seats_enable.Goals as goal

pub returns : goal.returns
returns c =
    rw (c.set_word.ensures, c.enable.ensures)
