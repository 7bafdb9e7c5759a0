-- `settlement::checks::in_chips`: the tests are the definition's, and of 16 places the sum fits. Assumes nothing.
use Rattle.std.proofs.Common.{arith}
use Rattle.chips.proofs.Whole.{chips-le}
use Rattle.settlement.specs.Settlement.{in_chips}
use Rattle.settlement.proofs.Whole.{sum_fits}
use Rattle.settlement.proofs.checks.in_chips.Goals as goal

pub overflow_add-held : goal.overflow_add-held
overflow_add-held c =
    let start = c.args in
    record { fits = omega (arith, c.sum_chips.ensures, sum_fits start.stacks start.n (omega arith), c.chips_in-k.ensures, chips-le start.pot) }

pub returns : goal.returns
unfolding in_chips
returns c =
    rw (c.all_whole-2.ensures, c.all_whole-3.ensures, c.all_whole.ensures, c.is_whole.ensures, c.sum_chips.ensures, c.chips_in-k.ensures, c.sum_chips-2.ensures)
