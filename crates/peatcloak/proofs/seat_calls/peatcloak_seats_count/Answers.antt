-- `peatcloak::seat_calls::peatcloak_seats_count`: at most sixteen, so nothing is cut. Assumes nothing.
use Rattle.peatcloak.proofs.LawsSeats.{count_word}
use Rattle.peatcloak.proofs.seat_calls.peatcloak_seats_count.Goals as goal

pub returns : goal.returns
returns c =
    rw (c.word_of.ensures, c.count.ensures) (count_word _)
