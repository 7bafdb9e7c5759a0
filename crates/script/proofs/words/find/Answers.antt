-- `script::words::find` meets its contract: what `position` gives is the place, or the end where it gives none. Assumes nothing.
use mathlib.Core.Path.{sym, ◌∙◌}
use Rattle.script.proofs.LawsSplit.{found, missing}
use Rattle.script.proofs.words.find.Goals as goal

pub returns-in-Some-clause-value : goal.returns-in-Some-clause-value
returns-in-Some-clause-value c = found _ _ _ _ (sym c.position.ensures ∙ c.in-Some.is)

pub returns-in-None-clause-value : goal.returns-in-None-clause-value
returns-in-None-clause-value c = missing _ _ _ c.requires (sym c.position.ensures ∙ c.in-None.is)
