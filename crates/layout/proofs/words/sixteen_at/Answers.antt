-- `layout::words::sixteen_at`: a copy to the front. Assumes nothing.
use lib.Ieee.{nan, of_bits}
use Rattle.layout.proofs.words.sixteen_at.Goals as goal

pub returns : goal.returns
unfolding of_bits
returns c = c.copy.ensures nan
