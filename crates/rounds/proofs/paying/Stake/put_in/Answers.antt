-- `rounds::paying::Stake::put_in`: each field is what its callee ensures. Assumes nothing.
use Rattle.rounds.proofs.paying.Stake.put_in.Goals as goal

pub returns : goal.returns
returns c =
    rw (c.up_if-3.ensures, c.up_if-2.ensures, c.is_raise.ensures, c.up_if.ensures, c.max.ensures, c.max-b.ensures)
