-- `layout::words::round_at`: the round of the word there. Assumes nothing.
use mathlib.Core.Path.{ap, ◌∙◌}
use Rattle.layout.specs.Words.{round_of}
use Rattle.layout.proofs.words.round_at.Goals as goal

pub returns : goal.returns
returns c = c.round_of.ensures ∙ ap round_of c.word_at.ensures
