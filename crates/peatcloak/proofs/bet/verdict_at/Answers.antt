-- `peatcloak::bet::verdict_at`: the size by whether it is forced, and then the counters' row. Assumes nothing.
use mathlib.Core.Path.{sym, ◌∙◌}
use mathlib.Core.Bool.{true, false}
use Rattle.bets.specs.Bet.{bet_size, size_for}
use Rattle.table.specs.Pay.{verdict_of}
use Rattle.table.proofs.Bet.{verdict-room}
use Rattle.peatcloak.proofs.bet.verdict_at.Goals as goal

pub returns-then-is_forced : goal.returns-then-is_forced
returns-then-is_forced c =
    let a = c.args in
    c.room_for.ensures ∙ verdict-room a.p a.amount true _ c.validate_forced_bet_amount.ensures ∙ λ i. verdict_of a.p a.amount (sym c.if-is_forced.true i)

pub returns : goal.returns
unfolding bet_size size_for
returns c =
    let a = c.args in
    c.room_for-2.ensures ∙ verdict-room a.p a.amount false _ c.validate_bet_amount.ensures ∙ λ i. verdict_of a.p a.amount (sym c.if-is_forced.false i)
