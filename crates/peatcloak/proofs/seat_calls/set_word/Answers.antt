-- `peatcloak::seat_calls::set_word`: by the answer. Assumes nothing.
use Rattle.peatcloak.proofs.seat_calls.set_word.Goals as goal

pub returns-in-Ok : goal.returns-in-Ok
returns-in-Ok c =
    rw (c.word_over.ensures, c.in-Ok.is)

pub returns-in-Err : goal.returns-in-Err
returns-in-Err c =
    rw (c.word_over-in-Err.ensures, c.number.ensures, c.in-Err.is)
