-- `chips::sum_chips`: each of 16 is at most 8,000 chips, and past the array's end nothing is left to add. Assumes nothing.
use Rattle.std.proofs.Common.{rules, min, length, arith}
use borrow.Author.Tests.{tests}
use lib.ListN.{take}
use lib.Ieee.{nan}
use Rattle.std.proofs.lemmas.Iterator.{YieldsList-from_slice, YieldsList-from_map}
use Rattle.std.proofs.lemmas.Iterator.Consumers.{fits_by_from_yields_list}
use Rattle.commons.proofs.Slices.{front, sum-places}
use Rattle.chips.specs.Whole.{chips_in, sum_chips}
use Rattle.chips.proofs.Lists.{sum-le, no_more}
use Rattle.chips.proofs.sum_chips.Goals as goal

pub sum-requires-clause-fits : goal.sum-requires-clause-fits
unfolding sum_chips
sum-requires-clause-fits c =
    let l = c.args.l in
    let m = min c.args.n 16 in
    fits_by_from_yields_list chips_in (take m l) _ _
    (YieldsList-from_map _ chips_in (YieldsList-from_slice (take m l) cc) c.map.ensures.closure (λ x r q k. search (rules, tests)))
    (omega (arith, sum-places (front nan l m (omega arith)) chips_in, sum-le l m))

pub returns : goal.returns
unfolding sum_chips
returns c =
    let l = c.args.l in
    let m = min c.args.n (length l) in
    search (rules, sum-places (front nan l m (omega arith)) chips_in, no_more l c.args.n)
