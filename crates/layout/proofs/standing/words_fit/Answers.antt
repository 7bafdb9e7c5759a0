-- `layout::standing::words_fit`: each test in its place. Assumes nothing.
use mathlib.Core.Bool.{◌&&◌}
use Rattle.layout.specs.Standing.{words_fit}
use Rattle.layout.proofs.standing.words_fit.Goals as goal

pub returns : goal.returns
unfolding words_fit
returns c =
    λ i. c.is_below-5.ensures i && (c.is_below-6.ensures i && (c.is_below-7.ensures i && (c.is_below-8.ensures i && (c.is_below.ensures i && (c.is_below-2.ensures i && (c.is_below-3.ensures i && (c.is_below-4.ensures i && (c.data_fits.ensures i && (c.board_fits.ensures i && (c.fits.ensures i))))))))))
