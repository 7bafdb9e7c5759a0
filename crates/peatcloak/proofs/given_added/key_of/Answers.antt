-- `peatcloak::given_added::key_of`: by whether one is given. Assumes nothing.
use mathlib.Core.Path.{sym, ◌∙◌}
use Rattle.peatcloak.specs.GivenAdded.{key_given}
use Rattle.peatcloak.proofs.given_added.key_of.Goals as goal

pub returns-then-flag_at : goal.returns-then-flag_at
unfolding key_given
returns-then-flag_at c =
    simp (sym c.flag_at.ensures ∙ c.if-flag_at.true, c.set_at.ensures, c.set_at-then-flag_at.ensures, c.word_at.ensures)

pub returns : goal.returns
unfolding key_given
returns c = simp (sym c.flag_at.ensures ∙ c.if-flag_at.false)
