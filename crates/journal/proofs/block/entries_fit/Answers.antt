-- `journal::block::entries_fit`: each place fits. Assumes nothing.
use Rattle.std.proofs.Common.{rules, ℕ, ◌∙◌, arith}
use borrow.Author.Tests.{tests}
use lib.Dec.{ltb}
use Rattle.std.proofs.lemmas.Iterator.{YieldsList-from_range}
use Rattle.std.proofs.lemmas.Iterator.Search.{all_from_yields_List}
use Rattle.commons.proofs.Slices.{ranged, all-places}
use Rattle.journal.specs.Check.{byte}
use Rattle.journal.specs.Block.{entries_fit, entry_fits, entry_at}
use Rattle.journal.proofs.block.entries_fit.Goals as goal

pub returns : goal.returns
unfolding entries_fit
returns c =
    let b = c.args.block.now in
    let fits = λ (i : ℕ). entry_fits (ltb i (byte b 10)) (entry_at b i) in
    all_from_yields_List fits _ _ _ c.all.ensures.ran (YieldsList-from_range 0 120 120 (cc) (omega arith))
    (λ x r q k. search (rules, tests, c.requires.used_value))
    ∙ all-places (ranged 120) fits
