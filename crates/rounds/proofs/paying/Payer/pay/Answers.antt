-- `rounds::paying::Payer::pay`: each field is what its callee ensures. Assumes nothing.
use Rattle.rounds.proofs.paying.Payer.pay.Goals as goal

pub returns : goal.returns
returns c =
    rw (c.with_if.ensures, c.without_if.ensures, c.owing_after-owing.ensures, c.is_near_zero-out.ensures, c.put_in-stake.ensures)
