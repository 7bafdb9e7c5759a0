-- `settlement::hand_of`: the bets are counted, and `first` is the seat after the dealer. Assumes nothing.
use Rattle.settlement.proofs.hand_of.Goals as goal

pub returns : goal.returns
returns c = rw (c.after_dealer-first.ensures, c.counted-chips.ensures)
