-- `bets::size_of`: each return is what the rows come to at the tests that led there. Assumes nothing.
use mathlib.Core.Path.{sym, ◌∙◌}
use Rattle.bets.specs.Bet.{sized}
use Rattle.bets.proofs.size_of.Goals as goal

pub returns-then-doesnt_call : goal.returns-then-doesnt_call
unfolding sized
returns-then-doesnt_call c = simp (sym c.is_all_in-all_in.ensures, sym c.doesnt_call.ensures ∙ c.if-doesnt_call.true, c.into.ensures)

pub returns-then-too_small : goal.returns-then-too_small
unfolding sized
returns-then-too_small c =
    simp (sym c.is_all_in-all_in.ensures, sym c.raise_by.ensures, sym c.doesnt_call.ensures ∙ c.if-doesnt_call.false, sym c.too_small.ensures ∙ c.if-too_small.true, c.into-then-too_small.ensures)

pub returns : goal.returns
unfolding sized
returns c =
    simp (sym c.is_all_in-all_in.ensures, sym c.raise_by.ensures, sym c.doesnt_call.ensures ∙ c.if-doesnt_call.false, sym c.too_small.ensures ∙ c.if-too_small.false)
