-- `builder::checks::seats_where`: after i turns the set is that of the first i seats, by any test that tells what the closure does. Assumes nothing.
use native.Mathlib.Omega.{arith}
use mathlib.Core.Path.{refl}
use Rattle.seats.specs.Bits.{seats_where}
use Rattle.builder.proofs.Building.{all-seats, seats-next}
use Rattle.builder.proofs.checks.seats_where.Goals as goal

pub loop-i-init : goal.loop-i-init
unfolding seats_where
loop-i-init g c = (omega arith, λ p h. refl)

pub loop-i-preserved : goal.loop-i-preserved
loop-i-preserved g c =
    (omega arith, λ p h. seats-next p _ _ _ _ (c.loop-i.invariant.1 p h) (h _ _ c.loop-i-test.true c.test.ensures) c.with_if-set.ensures)

pub returns : goal.returns
returns g c = λ p h. all-seats p _ _ _ (c.loop-i.invariant.1 p h) c.loop-i.invariant.0 c.loop-i-test.false
