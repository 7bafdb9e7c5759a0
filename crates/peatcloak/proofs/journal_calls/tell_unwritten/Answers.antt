-- `peatcloak::journal_calls::tell_unwritten`: by the reason. Assumes nothing.
use mathlib.Core.Path.{refl}
use Rattle.peatcloak.specs.Writing.{hand_number, hand_out}
use Rattle.peatcloak.proofs.journal_calls.tell_unwritten.Goals as goal

pub returns-in-Denied : goal.returns-in-Denied
unfolding hand_number hand_out
returns-in-Denied c = record { value = simp (c.in-Denied.is, c.refused.ensures) (refl); out_after = simp c.in-Denied.is (refl) }

pub returns-in-NoRoom : goal.returns-in-NoRoom
unfolding hand_number hand_out
returns-in-NoRoom c = record { value = simp c.in-NoRoom.is (refl); out_after = simp (c.in-NoRoom.is, c.tell.ensures, c.word_of.ensures) (refl) }
