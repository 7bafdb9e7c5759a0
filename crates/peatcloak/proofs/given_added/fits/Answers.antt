-- `peatcloak::given_added::fits`: each test in its place. Assumes nothing.
use mathlib.Core.Bool.{◌&&◌}
use Rattle.peatcloak.proofs.given_added.fits.Goals as goal

pub returns : goal.returns
returns c = λ i. c.is_below.ensures i && (c.is_below-2.ensures i && c.is_below-3.ensures i)
