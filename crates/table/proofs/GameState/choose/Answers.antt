-- `table::GameState::choose`: each choice is its step. Assumes nothing.
use Rattle.table.specs.Choice.{choice_of}
use Rattle.table.proofs.GameState.choose.Goals as goal

pub returns-in-Call : goal.returns-in-Call
unfolding choice_of
returns-in-Call c = simp (c.in-Call.is, c.do_bet.ensures)

pub returns-in-Bet : goal.returns-in-Bet
unfolding choice_of
returns-in-Bet c = simp (c.in-Bet.is, c.do_bet-in-Bet.ensures)

pub returns-in-AllIn : goal.returns-in-AllIn
unfolding choice_of
returns-in-AllIn c = simp (c.in-AllIn.is, c.do_bet-in-AllIn.ensures, c.infinity.ensures)

pub returns-in-Fold : goal.returns-in-Fold
unfolding choice_of
returns-in-Fold c = simp (c.in-Fold.is, c.paying_nothing.ensures, c.fold-s.ensures)
