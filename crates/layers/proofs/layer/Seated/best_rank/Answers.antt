-- `layers::layer::Seated::best_rank`: of each seat its rank is told, where it is one of those who reached u. Assumes nothing.
use mathlib.Core.Path.{◌≡◌}
use Rattle.std.proofs.Common.{rules, cond, ◌&&◌, ◌∙◌}
use borrow.Author.Tests.{tests}
use lib.Bits.{bit_or}
use lib.Dec.{leb}
use Rattle.seats.specs.Bits.{has}
use Rattle.layers.specs.Settlement.{bet, rank, reached, best}
use Rattle.layers.proofs.Levels.{contends-is}
use Rattle.layers.proofs.layer.Seated.best_rank.Goals as goal

pub returns : goal.returns
unfolding best reached
returns c =
    let h = c.args.self.hand in
    let u = c.args.u in
    c.most.ensures (reached h u) (rank h) (λ i x l k.
    let is : x ≡ cond (has (bit_or h.active h.all_in) i && leb u (bet h i)) (rank h i) 0 = search (rules, tests) in
    is ∙ rw (contends-is h i l))
