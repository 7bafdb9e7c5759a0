-- `layers::layer::Seated::contested`: below n who is in the set contends. Assumes nothing.
use Rattle.std.proofs.Common.{rules, sym, ◌∙◌, arith}
use borrow.Author.Tests.{tests}
use lib.Bits.{bit_or}
use Rattle.std.proofs.lemmas.Iterator.{YieldsList-from_range}
use Rattle.std.proofs.lemmas.Iterator.Search.{any_from_yields_List}
use Rattle.seats.specs.Bits.{has}
use Rattle.commons.proofs.Folds.{any_same}
use Rattle.commons.proofs.Slices.{ranged, any-places}
use Rattle.layers.proofs.Levels.{contends-is}
use Rattle.layers.proofs.layer.Seated.contested.Goals as goal

pub returns : goal.returns
returns c =
    let h = c.args.self.hand in
    let who = bit_or h.active h.all_in in
    any_from_yields_List (has who) _ _ _ c.any.ensures.ran (YieldsList-from_range 0 h.n h.n (cc) (omega arith)) (λ x b q k. search (rules, tests))
    ∙ any-places (ranged h.n) (has who)
    ∙ any_same h.n _ _ (λ i l. sym (contends-is h i l))
