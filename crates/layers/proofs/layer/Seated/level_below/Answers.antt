-- `layers::layer::Seated::level_below`: of each seat its bet is told, where it is a contender's and below u. Assumes nothing.
use mathlib.Core.Path.{◌≡◌}
use Rattle.std.proofs.Common.{rules, cond, ◌&&◌, ◌∙◌}
use borrow.Author.Tests.{tests}
use lib.Bits.{bit_or}
use lib.Dec.{ltb}
use Rattle.seats.specs.Bits.{has}
use Rattle.layers.specs.Settlement.{bet, contends, level_below}
use Rattle.layers.proofs.Levels.{contends-is}
use Rattle.layers.proofs.layer.Seated.level_below.Goals as goal

pub returns : goal.returns
unfolding level_below
returns c =
    let h = c.args.self.hand in
    let u = c.args.u in
    c.most.ensures (λ i. contends h i && ltb (bet h i) u) (bet h) (λ i x l k.
    let is : x ≡ cond (has (bit_or h.active h.all_in) i && ltb (bet h i) u) (bet h i) 0 = search (rules, tests) in
    is ∙ rw (contends-is h i l))
