-- `peatcloak::journal_calls::not_laid`: by the reason. Assumes nothing.
use Rattle.peatcloak.specs.Writing.{not_laid}
use Rattle.peatcloak.proofs.journal_calls.not_laid.Goals as goal

pub returns-in-Denied : goal.returns-in-Denied
unfolding not_laid
returns-in-Denied c = simp (c.in-Denied.is, c.refused.ensures)

pub returns-in-NoRoom : goal.returns-in-NoRoom
unfolding not_laid
returns-in-NoRoom c = rw c.in-NoRoom.is
