-- `peatcloak::seat_calls::peatcloak_seats_next`: at most sixteen, so nothing is cut. Assumes nothing.
use Rattle.peatcloak.proofs.LawsSeats.{next-seat, no-seat}
use Rattle.seats.specs.Set.{of_bits}
use Rattle.peatcloak.proofs.seat_calls.peatcloak_seats_next.Goals as goal

pub returns-in-Some : goal.returns-in-Some
returns-in-Some c =
    next-seat (of_bits c.args.set) c.args.from _ _ _ c.ones.ensures c.in-Some.is c.word_of.ensures

pub returns-in-None : goal.returns-in-None
returns-in-None c =
    no-seat (of_bits c.args.set) c.args.from _ c.ones.ensures c.in-None.is
