-- `layers::layer::Seated::put_in`: of 16 numbers of 32 bits the sum fits. Assumes nothing.
use Rattle.std.proofs.Common.{rules, ℕ, min, ◌∙◌, arith}
use borrow.Author.Tests.{tests}
use lib.ListN.{take}
use Rattle.std.proofs.lemmas.Iterator.{YieldsList-from_slice, YieldsList-from_map}
use Rattle.std.proofs.lemmas.Iterator.Consumers.{sum_by_from_yields_List, fits_by_from_yields_list}
use Rattle.commons.proofs.Folds.{sum-most}
use Rattle.commons.proofs.Slices.{front, sum-places}
use Rattle.layers.specs.Settlement.{bet, put_in}
use Rattle.layers.proofs.layer.Seated.put_in.Goals as goal

pub sum-requires-clause-fits : goal.sum-requires-clause-fits
sum-requires-clause-fits c =
    let h = c.args.self.hand in
    let part = λ (b : ℕ). min b c.args.u in
    fits_by_from_yields_list part (take h.n h.bets) _ _
    (YieldsList-from_map _ part (YieldsList-from_slice _ cc) c.map.ensures.closure (λ x r q k. search (rules, tests)))
    (omega (arith, sum-places (front 0 h.bets h.n (omega arith)) part, sum-most h.n (λ i. part (bet h i)) 0xffff_ffff (λ i l. omega (arith, c.ranges.u.fits))))

pub returns : goal.returns
unfolding put_in
returns c =
    let h = c.args.self.hand in
    let part = λ (b : ℕ). min b c.args.u in
    sum_by_from_yields_List part (take h.n h.bets) _ _ c.sum.ensures.ran
    (YieldsList-from_map _ part (YieldsList-from_slice _ cc) c.map.ensures.closure (λ x r q k. search (rules, tests)))
    ∙ sum-places (front 0 h.bets h.n (omega arith)) part
