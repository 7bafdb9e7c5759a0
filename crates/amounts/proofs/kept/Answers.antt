-- `amounts::kept`: a copy from the front to the front. Assumes nothing.
use Prim.Native.Nat.{min}
use native.Mathlib.Omega.{arith}
use mathlib.Core.Path.{◌∙◌}
use lib.Ieee.{nan, of_bits}
use Rattle.commons.proofs.Filled.{copied-front}
use Rattle.amounts.specs.Amounts.{zeros}
use Rattle.amounts.proofs.kept.Goals as goal

pub returns : goal.returns
unfolding of_bits
returns c =
    let a = c.args in
    c.copy.ensures nan ∙ copied-front nan zeros a.list a.len (min a.len 16) (omega arith)
