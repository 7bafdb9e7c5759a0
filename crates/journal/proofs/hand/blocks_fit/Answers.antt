-- `journal::hand::blocks_fit`: each block fits. Assumes nothing.
use Rattle.std.proofs.Common.{rules, refl, ℕ, ◌*◌, ◌∙◌, arith}
use borrow.Author.Tests.{tests}
use Rattle.std.proofs.lemmas.Iterator.{YieldsList-from_range}
use Rattle.std.proofs.lemmas.Iterator.Search.{all_from_yields_List}
use Rattle.commons.proofs.Slices.{ranged, all-places}
use Rattle.journal.specs.Hand.{blocks_fit, block_fits, piece}
use Rattle.journal.proofs.LawsHand.{part-is}
use Rattle.journal.proofs.hand.blocks_fit.Goals as goal

pub returns : goal.returns
unfolding blocks_fit
returns c =
    let b = c.args.bytes.now in
    let n = c.args.n in
    let fits = λ (i : ℕ). block_fits c.title_at-title.result n i (piece 512 b i) in
    all_from_yields_List fits _ _ _ c.all.ensures.ran (YieldsList-from_range 0 n n (cc) (omega arith))
    (λ x r q k. search (rules, tests, part-is b (512 * x) x refl))
    ∙ all-places (ranged n) fits
    ∙ rw (c.title_at-title.ensures, c.requires.n_value)
