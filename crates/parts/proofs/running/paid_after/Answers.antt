-- `parts::running::paid_after`: by the answer. Assumes nothing.
use Rattle.parts.proofs.running.paid_after.Goals as goal

pub returns-in-Ok : goal.returns-in-Ok
returns-in-Ok c =
    rw c.in-Ok.is
