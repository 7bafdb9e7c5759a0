-- `layout::laying::data_words`: each word is the number or the set that it stands for. Assumes nothing.
use mathlib.Core.List.{[], ◌∷◌}
use Rattle.layout.proofs.laying.data_words.Goals as goal

pub returns : goal.returns
returns c =
    λ i.
    c.word_of_set.ensures.value i
    ∷ c.word_of_set-2.ensures.value i
    ∷ c.word_of.ensures i
    ∷ c.word_of-2.ensures i
    ∷ c.word_of_byte.ensures.value i
    ∷ c.word_of_byte-2.ensures.value i
    ∷ c.word_of_byte-3.ensures.value i
    ∷ []
