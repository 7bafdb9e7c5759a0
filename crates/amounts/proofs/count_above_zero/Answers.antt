-- `amounts::count_above_zero`: after so many turns the result is that of the first so many. Assumes nothing.
use native.Mathlib.Omega.{arith}
use native.Mathlib.Nat.{add-zero}
use mathlib.Core.Path.{refl, sym, ap, ◌∙◌}
use mathlib.Core.Bool.{cond}
use lib.Ieee.{lt, of_bits}
use Rattle.std.proofs.lemmas.List.{length-take}
use Rattle.floats.specs.Helpers.{zerof}
use Rattle.amounts.specs.Amounts.{above_of}
use Rattle.amounts.proofs.Folds.{taken, taken-end, above-next, above-fits}
use Rattle.amounts.proofs.count_above_zero.Goals as goal
use Rattle.amounts.proofs.count_above_zero.Goals.{then-x, else-x}

pub loop-x-init : goal.loop-x-init
unfolding of_bits above_of
loop-x-init c = refl

pub overflow_add-count : goal.overflow_add-count
unfolding of_bits
overflow_add-count c =
    let i = c.loop-x.x-index in
    let one = ap (λ b. cond b 1 0) (sym c.if-x.true ∙ ap (lt zerof) (taken c.args.list c.min.result i c.loop-x-test.true)) in
    record { fits = above-fits c.args.list i _ 1 (omega (arith, length-take c.min.result c.args.list, c.min.ensures, c.loop-x-test.true)) c.loop-x.invariant one }

pub loop-x-preserved : goal.loop-x-preserved
unfolding of_bits
loop-x-preserved c =
    let i = c.loop-x.x-index in
    let here = ap (lt zerof) (taken c.args.list c.min.result i c.loop-x-test.true) in
    elim c.if-x.branch [
      | then-x w ↦ w.count-is ∙ above-next _ _ _ 1 c.loop-x.invariant (ap (λ b. cond b 1 0) (sym w.if-x.true ∙ here))
      | else-x w ↦ w.count-is ∙ sym (add-zero c.loop-x.count) ∙ above-next _ _ _ 0 c.loop-x.invariant (ap (λ b. cond b 1 0) (sym w.if-x.false ∙ here))
    ]

pub returns : goal.returns
returns c = taken-end c.args.list c.min.result above_of _ _ _ c.loop-x.invariant c.loop-x.auto.x-index-end c.loop-x-test.false c.min.ensures (omega (arith, c.well_formed))
