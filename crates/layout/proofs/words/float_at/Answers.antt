-- `layout::words::float_at`: a place that is not there is a NaN. Assumes nothing.
use Rattle.std.proofs.Common.{rules}
use lib.Ieee.{of_bits, div}
use Rattle.layout.proofs.words.float_at.Goals as goal

pub returns : goal.returns
unfolding of_bits div
returns c = search rules
