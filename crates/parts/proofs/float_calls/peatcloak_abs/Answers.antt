-- `parts::float_calls::peatcloak_abs`: the size of floats. Assumes nothing.
use Rattle.parts.proofs.float_calls.peatcloak_abs.Goals as goal

pub returns : goal.returns
returns c = c.abs.ensures
