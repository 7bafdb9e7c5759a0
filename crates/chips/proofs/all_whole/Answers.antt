-- `chips::all_whole`: past the array's end stands nothing whole, and up to it each place is tested. Assumes nothing.
use Rattle.std.proofs.Common.{rules, sym, ◌∙◌, arith}
use borrow.Author.Tests.{tests}
use lib.Ieee.{nan}
use Rattle.std.proofs.lemmas.Iterator.{YieldsList-from_slice}
use Rattle.std.proofs.lemmas.Iterator.Search.{all_from_yields_List}
use Rattle.commons.proofs.Slices.{front, all-places}
use Rattle.chips.specs.Whole.{is_whole, all_whole}
use Rattle.chips.proofs.Lists.{too_long}
use Rattle.chips.proofs.all_whole.Goals as goal

pub returns-then-n-gt16 : goal.returns-then-n-gt16
returns-then-n-gt16 c = sym (too_long _ _ (omega arith))

pub returns : goal.returns
unfolding all_whole
returns c =
    all_from_yields_List is_whole _ _ _ c.all.ensures.ran (YieldsList-from_slice _ cc) (λ x b q k. search (rules, tests))
    ∙ all-places (front nan c.args.l c.args.n (omega arith)) is_whole
