-- `peatcloak::seat_calls::seat_word`: by the answer. Assumes nothing.
use native.Mathlib.Omega.{arith}
use Rattle.peatcloak.proofs.seat_calls.seat_word.Goals as goal

pub returns-in-Ok : goal.returns-in-Ok
returns-in-Ok c =
    rw (c.word_of_flag.ensures, c.in-Ok.is) (omega arith)

pub returns-in-Err : goal.returns-in-Err
returns-in-Err c =
    rw (c.word_over.ensures, c.number.ensures, c.in-Err.is)
