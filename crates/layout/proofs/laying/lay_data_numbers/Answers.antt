-- `layout::laying::lay_data_numbers`: two copies. Assumes nothing.
use mathlib.Core.Path.{◌∙◌}
use mathlib.Core.List.{[], ◌∷◌}
use Rattle.commons.specs.Filled.{copied}
use Rattle.layout.specs.Places.{STARTING_PLAYER_ACTIVE, PASSED}
use Rattle.layout.proofs.laying.lay_data_numbers.Goals as goal

pub returns : goal.returns
returns c =
    c.copy-2.ensures 0
    ∙ λ i. copied 0 PASSED ((c.copy.ensures 0 ∙ λ j. copied 0 STARTING_PLAYER_ACTIVE c.args.numbers.now 0 (c.data_words-list.ensures j) 7) i) 0 (c.word_of.ensures i ∷ []) 1
