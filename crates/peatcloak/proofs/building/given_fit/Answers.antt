-- `peatcloak::building::given_fit`: each test in its place. Assumes nothing.
use mathlib.Core.Bool.{◌&&◌}
use Rattle.peatcloak.specs.Building.{given_fit}
use Rattle.peatcloak.proofs.building.given_fit.Goals as goal

pub returns : goal.returns
unfolding given_fit
returns c =
    λ i. c.is_below-10.ensures i && (c.is_below-11.ensures i && (c.is_below-12.ensures i && (c.is_below-13.ensures i && (c.is_below-14.ensures i && (c.is_below-5.ensures i && (c.is_below-6.ensures i && (c.is_below-7.ensures i && (c.is_below-8.ensures i && (c.is_below-9.ensures i && (c.is_below.ensures i && (c.is_below-2.ensures i && (c.is_below-3.ensures i && (c.is_below-4.ensures i && c.fits.ensures i)))))))))))))
