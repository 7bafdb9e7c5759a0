-- `layers::layer::most`: each turn takes one seat more. Assumes nothing.
use native.Mathlib.Numerals.{add-one}
use native.Mathlib.Omega.{arith}
use mathlib.Core.Path.{◌≡◌, refl, ◌∙◌}
use Rattle.std.proofs.Common.{rules, max}
use Rattle.commons.specs.Folds.{most_to}
use Rattle.layers.proofs.layer.most.Goals as goal

pub loop-i-init : goal.loop-i-init
unfolding most_to
loop-i-init g c = (omega arith, λ pass key at. refl)

pub loop-i-preserved : goal.loop-i-preserved
unfolding most_to
loop-i-preserved g c = (
  omega arith,
  λ pass key at.
      let larger : c.max-most.result ≡ max c.loop-i.most c.of.result = search rules in
      larger ∙ rw (add-one c.loop-i.i, c.loop-i.invariant.1 pass key at, at c.loop-i.i c.of.result c.loop-i-test.true c.of.ensures) refl,
)

pub returns : goal.returns
returns g c pass key at =
    let e : c.loop-i.i ≡ c.args.n = omega arith in
    rw e at (c.loop-i.invariant.1 pass key at)
