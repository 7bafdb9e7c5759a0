-- `layout::standing::data_fits`: each test in its place. Assumes nothing.
use mathlib.Core.Bool.{◌&&◌}
use Rattle.layout.specs.Standing.{data_fits}
use Rattle.layout.proofs.standing.data_fits.Goals as goal

pub returns : goal.returns
unfolding data_fits
returns c =
    λ i. c.is_below.ensures i && (c.is_below-2.ensures i && (c.is_below-3.ensures i && (c.is_below-4.ensures i && (c.is_below-5.ensures i))))
