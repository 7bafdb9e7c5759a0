-- `layers::layer::Seated::winners`: the fold takes one seat after the other into the set of those who reached u with the best rank. Assumes nothing.
use Rattle.std.proofs.Common.{rules, ℕ, ◌&&◌, ◌∙◌, arith}
use borrow.Author.Tests.{tests}
use lib.Bits.{bit_or}
use lib.ListN.{take}
use lib.Dec.{leb, eqb}
use Rattle.std.proofs.lemmas.Iterator.{YieldsList-from_slice, YieldsList-from_zip}
use Rattle.std.proofs.lemmas.Iterator.Consumers.{YieldsList-at, YieldsList-from_enumerate, fold_from_yields_List}
use Rattle.seats.specs.Bits.{has, with_if, seats_where}
use Rattle.commons.proofs.Slices.{front, zipped, counted, fold-places}
use Rattle.layers.specs.declared.Hand.{Hand}
use Rattle.layers.specs.Settlement.{reached, best, wins}
use Rattle.layers.proofs.Levels.{contends-is}
use Rattle.layers.proofs.layer.Seated.winners.Goals as goal

abbrev step : Hand → ℕ → ℕ → ℕ × (ℕ × ℕ) → ℕ
step h u set x = with_if (has (bit_or h.active h.all_in) x.0 && leb u x.1.0 && eqb x.1.1 (best h u)) set x.0

pub returns : goal.returns
unfolding wins reached seats_where
returns c =
    let h = c.args.self.hand in
    let u = c.args.u in
    fold_from_yields_List _ (step h u) 0 _ c.fold.ensures.ran
    (YieldsList-from_enumerate (YieldsList-at c.enumerate.ensures.source (YieldsList-from_zip (YieldsList-from_slice (take h.n h.bets) cc) (YieldsList-from_slice (take h.n h.ranks) cc))) c.enumerate.ensures.count)
    (λ a x b q k. search (rules, tests, c.best_rank-best.ensures))
    ∙ fold-places (counted (zipped (front 0 h.bets h.n (omega arith)) (front 0 h.ranks h.n (omega arith)))) (step h u) (λ k. seats_where k (wins h u)) (λ k l. rw (contends-is h k l))
