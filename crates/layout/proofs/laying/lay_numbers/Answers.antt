-- `layout::laying::lay_numbers`: the words, and then what is added. Assumes nothing.
use mathlib.Core.Path.{ap, ◌∙◌}
use Rattle.commons.specs.Filled.{copied}
use Rattle.layout.specs.Places.{ADDED}
use Rattle.layout.specs.Added.{laid_added}
use Rattle.layout.proofs.laying.lay_numbers.Goals as goal

pub returns : goal.returns
returns c =
    let a = c.args in
    record { numbers_after = c.lay.ensures.numbers_after ∙ ap (laid_added a.t.added) (c.copy.ensures 0 ∙ λ i. copied 0 0 a.numbers.now 0 (c.numbers_of-list.ensures.value i) ADDED); fits = (c.numbers_of-list.ensures.fits, c.lay.ensures.fits) }
