-- `journal::lines::OpenLine::is_allowed`: a number, or a letter behind a line that is whole. Assumes nothing.
use mathlib.Core.Path.{sym, ◌∙◌}
use Rattle.journal.specs.Lines.{allowed}
use Rattle.journal.proofs.lines.OpenLine.is_allowed.Goals as goal

pub returns-then-is_number : goal.returns-then-is_number
unfolding allowed
returns-then-is_number c = let n = sym c.is_number.ensures ∙ c.if-is_number.true in simp n

pub returns : goal.returns
unfolding allowed
returns c =
    let n = sym c.is_number.ensures ∙ c.if-is_number.false in
    rw (c.is_whole.ensures, c.is_letter.ensures) (simp n)
