-- `settlement::checks::any_won`: past the array's end stands a NaN, which is not 0, and up to it each place is tested. Assumes nothing.
use Rattle.std.proofs.Common.{rules, sym, ◌∙◌, arith}
use borrow.Author.Tests.{tests}
use lib.Ieee.{nan, ne, of_bits}
use Rattle.std.proofs.lemmas.Iterator.{YieldsList-from_slice}
use Rattle.std.proofs.lemmas.Iterator.Search.{any_from_yields_List}
use Rattle.floats.specs.Helpers.{zerof}
use Rattle.commons.proofs.Slices.{front, any-places}
use Rattle.settlement.specs.Settlement.{any_won}
use Rattle.settlement.proofs.Unpaid.{too_long}
use Rattle.settlement.proofs.checks.any_won.Goals as goal

pub returns-then-n-gt16 : goal.returns-then-n-gt16
returns-then-n-gt16 c = sym (too_long _ _ (omega arith))

pub returns : goal.returns
unfolding any_won of_bits
returns c =
    any_from_yields_List (λ x. ne x zerof) _ _ _ c.any.ensures.ran (YieldsList-from_slice _ cc) (λ x b q k. search (rules, tests))
    ∙ any-places (front nan c.args.winnings c.args.n (omega arith)) (λ x. ne x zerof)
