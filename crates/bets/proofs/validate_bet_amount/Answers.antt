-- `bets::validate_bet_amount`: each return is what the rows come to at the tests that led there. Assumes nothing.
use mathlib.Core.Path.{sym, ◌∙◌}
use Rattle.bets.specs.Bet.{sized, bet_size}
use Rattle.bets.proofs.validate_bet_amount.Goals as goal

pub returns-then-invalid_size : goal.returns-then-invalid_size
unfolding bet_size
returns-then-invalid_size c = simp (sym c.invalid_size.ensures ∙ c.if-invalid_size.true, c.into.ensures)

pub returns-then-doesnt_call_self : goal.returns-then-doesnt_call_self
unfolding bet_size
returns-then-doesnt_call_self c =
    simp (sym c.invalid_size.ensures ∙ c.if-invalid_size.false, sym c.slack-e.ensures, sym c.doesnt_call_self.ensures ∙ c.if-doesnt_call_self.true, c.into-then-doesnt_call_self.ensures)

pub returns : goal.returns
unfolding sized bet_size
returns c =
    simp (sym c.invalid_size.ensures ∙ c.if-invalid_size.false, sym c.slack-e.ensures, sym c.doesnt_call_self.ensures ∙ c.if-doesnt_call_self.false, c.size_of.ensures, c.payment.ensures)
