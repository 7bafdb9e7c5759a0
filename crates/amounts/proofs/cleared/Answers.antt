-- `amounts::cleared`: zeros, and then what stood behind them. Assumes nothing.
use native.Mathlib.Omega.{arith}
use mathlib.Core.Path.{ap, ◌∙◌}
use mathlib.Core.List.{◌++◌}
use lib.Ieee.{nan, of_bits}
use lib.ListN.{drop, replicate}
use Rattle.std.proofs.lemmas.List.{length-take-le}
use Rattle.floats.specs.Helpers.{zerof}
use Rattle.commons.proofs.Pasted.{filled-same}
use Rattle.commons.specs.Filled.{filled}
use Rattle.amounts.proofs.cleared.Goals as goal

pub returns : goal.returns
unfolding of_bits
returns c =
    let l = c.args.list in
    let m = c.min.result in
    (λ i. c.fill.ensures.after (λ y e. e) i ++ drop m l)
    ∙ (λ i. replicate (length-take-le m l (omega (arith, c.well_formed, c.min.ensures)) i) zerof ++ drop m l)
    ∙ filled-same nan l m zerof (omega (arith, c.well_formed, c.min.ensures))
    ∙ ap (λ n. filled n l (λ k. zerof)) c.min.ensures
