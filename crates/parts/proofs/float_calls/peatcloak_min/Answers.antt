-- `parts::float_calls::peatcloak_min`: the smaller of floats, in this order. Assumes nothing.
use Rattle.parts.proofs.float_calls.peatcloak_min.Goals as goal

pub returns : goal.returns
returns c = c.min.ensures
