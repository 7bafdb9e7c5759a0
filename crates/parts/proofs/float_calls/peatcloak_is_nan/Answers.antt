-- `parts::float_calls::peatcloak_is_nan`: the test of floats, as a word. Assumes nothing.
use Rattle.parts.proofs.float_calls.peatcloak_is_nan.Goals as goal

pub returns : goal.returns
returns c =
    rw (c.word_of_flag.ensures, c.is_nan.ensures)
