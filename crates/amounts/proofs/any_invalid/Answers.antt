-- `amounts::any_invalid`: the chain asks each of the first n places. Assumes nothing.
use native.Mathlib.Omega.{arith}
use mathlib.Core.Path.{ap, ◌∙◌}
use borrow.Author.Tests.{tests}
use lib.Ieee.{nan}
use Rattle.std.proofs.Common.{rules}
use Rattle.std.proofs.lemmas.Iterator.{YieldsList-from_slice}
use Rattle.std.proofs.lemmas.Iterator.Search.{any_from_yields_List}
use Rattle.commons.proofs.Slices.{front, any-places}
use Rattle.amounts.specs.Amounts.{invalid, any_invalid}
use Rattle.amounts.proofs.Folds.{invalid-any}
use Rattle.amounts.proofs.any_invalid.Goals as goal

pub returns : goal.returns
returns c =
    any_from_yields_List invalid _ _ _ c.any.ensures.ran (YieldsList-from_slice _ cc) (λ x b q k. search (rules, tests))
    ∙ any-places (front nan c.args.list c.min.result (omega (arith, c.well_formed, c.min.ensures))) invalid
    ∙ invalid-any c.min.result c.args.list
    ∙ ap (λ n. any_invalid n c.args.list) c.min.ensures
