-- `parts::float_calls::peatcloak_tol`: the tolerance of floats. Assumes nothing.
use Rattle.parts.proofs.float_calls.peatcloak_tol.Goals as goal

pub returns : goal.returns
returns c = c.tol.ensures
