-- `peatcloak::journal_calls::tell_hand`: by what became of the hand. Assumes nothing.
use mathlib.Core.Path.{refl}
use Rattle.peatcloak.specs.Writing.{hand_number, hand_out}
use Rattle.peatcloak.proofs.journal_calls.tell_hand.Goals as goal

pub returns-in-Ok : goal.returns-in-Ok
unfolding hand_number hand_out
returns-in-Ok c = record { value = simp c.in-Ok.is (refl); out_after = simp (c.in-Ok.is, c.tell.ensures, c.word_of.ensures) (refl) }

pub returns-in-Err : goal.returns-in-Err
unfolding hand_number hand_out
returns-in-Err c =
    record { value = simp (c.in-Err.is, c.tell_unwritten.ensures.value) (refl); out_after = simp (c.in-Err.is, c.tell_unwritten.ensures.out_after) (refl) }
