-- `peatcloak::journal_calls::tell_block`: by what became of the block. Assumes nothing.
use mathlib.Core.Path.{refl}
use Rattle.peatcloak.specs.Writing.{laid_number, block_out}
use Rattle.peatcloak.proofs.journal_calls.tell_block.Goals as goal

pub returns-in-Ok : goal.returns-in-Ok
unfolding laid_number block_out
returns-in-Ok c = record { value = simp c.in-Ok.is (refl); out_after = simp (c.in-Ok.is, c.tell.ensures, c.follows.ensures) (refl) }

pub returns-in-Err : goal.returns-in-Err
unfolding laid_number block_out
returns-in-Err c = record { value = simp (c.in-Err.is, c.not_laid.ensures) (refl); out_after = simp c.in-Err.is (refl) }
