-- `peatcloak::journal_reads::tell_hand`: by whether it was read. Assumes nothing.
use mathlib.Core.Path.{refl}
use Rattle.peatcloak.specs.Reading.{read_number, hand_read_told}
use Rattle.peatcloak.proofs.journal_reads.tell_hand.Goals as goal

pub returns-in-Err : goal.returns-in-Err
unfolding read_number hand_read_told
returns-in-Err c = record { value = simp (c.in-Err.is, c.refused.ensures) (refl); head_after = simp (c.in-Err.is, c.refused.ensures) (refl) }

pub returns-in-Ok : goal.returns-in-Ok
unfolding read_number hand_read_told
returns-in-Ok c =
    record { value = simp (c.in-Ok.is, c.copy.ensures 0, c.hand_words-list.ensures) (refl); head_after = simp (c.in-Ok.is, c.copy.ensures 0, c.hand_words-list.ensures) (refl) }
