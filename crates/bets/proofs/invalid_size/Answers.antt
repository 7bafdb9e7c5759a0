-- `bets::invalid_size`: both tests are what the helpers ensure. Assumes nothing.
use Rattle.bets.proofs.invalid_size.Goals as goal

pub returns : goal.returns
returns c = rw (c.is_sign_negative.ensures, c.is_nan.ensures)
