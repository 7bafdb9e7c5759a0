-- `parts::running::run_from`: after k turns the first k bets are made. Assumes nothing.
use lib.Ieee.{of_bits}
use mathlib.Core.Path.{refl}
use native.Mathlib.Omega.{arith}
use Rattle.parts.specs.Run.{ran_to}
use Rattle.parts.proofs.LawsRun.{taken-most, begins, goes_on, ends}
use Rattle.parts.proofs.running.run_from.Goals as goal

pub loop-amount-init : goal.loop-amount-init
unfolding ran_to of_bits
loop-amount-init c = begins _ _ _ refl

pub overflow_add-taken : goal.overflow_add-taken
overflow_add-taken c =
    omega (arith, c.well_formed, c.loop-amount.invariant.most, c.loop-amount-test.true, taken-most c.do_bet-s.result.answer, c.one_if_taken-taken.ensures)

pub loop-amount-preserved : goal.loop-amount-preserved
loop-amount-preserved c =
    goes_on _ _ _ _ _ _ _ _ _ c.loop-amount.invariant c.do_bet-s.ensures c.paid_after-paid.ensures c.one_if_taken-taken.ensures

pub returns : goal.returns
returns c =
    ends _ _ _ _ _ _ _ c.loop-amount.invariant c.loop-amount.auto.amount-index-end c.loop-amount-test.false
