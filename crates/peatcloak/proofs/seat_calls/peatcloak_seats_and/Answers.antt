-- `peatcloak::seat_calls::peatcloak_seats_and`: the number of the set that is made. Assumes nothing.
use Rattle.peatcloak.proofs.seat_calls.peatcloak_seats_and.Goals as goal

pub returns : goal.returns
returns c = rw c.bitand-both.ensures
