-- `rounds::paying::Stake::is_full`: the raise is what is_raise ensures. Assumes nothing.
use Rattle.rounds.proofs.paying.Stake.is_full.Goals as goal

pub returns : goal.returns
returns c = rw c.is_raise-raised.ensures
