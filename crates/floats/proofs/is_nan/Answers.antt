-- `floats::is_nan`: a NaN, and nothing else, differs from itself. Assumes nothing.
use Rattle.floats.proofs.Laws.{ne_self}
use Rattle.floats.proofs.is_nan.Goals as goal

pub returns : goal.returns
returns c = ne_self c.args.x
