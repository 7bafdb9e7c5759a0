-- `layout::added::lay`: a copy of its words. Assumes nothing.
use native.Mathlib.Omega.{arith}
use mathlib.Core.Path.{◌∙◌}
use mathlib.Core.List.{[], ◌∷◌}
use Rattle.commons.specs.Filled.{copied}
use Rattle.layout.specs.Places.{ADDED}
use Rattle.layout.proofs.added.lay.Goals as goal

pub returns : goal.returns
returns c =
    record {
      fits = record { code = omega (arith, c.word_of_set.ensures.value, c.word_of_set.ensures.low); year = omega (arith, c.word_of_set-2.ensures.value, c.word_of_set-2.ensures.low) };
      numbers_after = c.copy.ensures 0 ∙ λ i. copied 0 ADDED c.args.numbers.now 0 (c.word_of_set.ensures.value i ∷ c.word_of_set-2.ensures.value i ∷ c.args.a.key.hand ∷ []) 3;
    }
