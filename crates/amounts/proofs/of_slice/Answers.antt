-- `amounts::of_slice`: a copy from the front to the front. Assumes nothing.
use Prim.Native.Nat.{min}
use native.Mathlib.Omega.{arith}
use mathlib.Core.Path.{◌∙◌}
use lib.ListN.{length}
use lib.Ieee.{nan, of_bits}
use Rattle.commons.proofs.Filled.{copied-front}
use Rattle.amounts.specs.Amounts.{zeros}
use Rattle.amounts.proofs.of_slice.Goals as goal

pub returns : goal.returns
unfolding of_bits
returns c =
    let s = c.args.s.now in
    c.copy.ensures nan ∙ copied-front nan zeros s 16 (min (length s) 16) (omega arith)
