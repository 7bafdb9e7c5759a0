-- `console::opening::amounts_from`: the amounts before the index are laid, and sixteen are all of them. Assumes nothing.
use Rattle.std.proofs.Common.{arith, length-set}
use Rattle.console.proofs.LawsOpening.{one_more, amounts-all}
use Rattle.console.proofs.opening.amounts_from.Goals as goal

pub loop-i-preserved : goal.loop-i-preserved
loop-i-preserved c =
    let inv = c.loop-i.invariant in
    (simp length-set inv.0, one_more c.args.numbers c.loop-i.list c.loop-i.i (omega (arith, c.loop-i-test.true)) inv.0 inv.1)

pub returns : goal.returns
returns c =
    let inv = c.loop-i.invariant in
    amounts-all c.args.numbers _ (omega (arith, c.well_formed)) inv.0 (λ k b. inv.1 k (omega (arith, c.loop-i-test.false)))
