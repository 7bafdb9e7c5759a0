-- `parts::float_calls::peatcloak_max`: the larger of floats, in this order. Assumes nothing.
use Rattle.parts.proofs.float_calls.peatcloak_max.Goals as goal

pub returns : goal.returns
returns c = c.max.ensures
