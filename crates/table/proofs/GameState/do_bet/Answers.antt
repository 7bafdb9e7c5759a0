-- `table::GameState::do_bet`: each way to the exit is a case of the definition. Assumes nothing.
use mathlib.Core.Path.{◌∙◌}
use Rattle.rounds.specs.Paying.{pay_of, seated}
use Rattle.rounds.specs.Walk.{walk_of}
use Rattle.table.specs.Answers.{paid}
use Rattle.table.specs.Pay.{verdict_of, with_payer}
use Rattle.table.proofs.Bet.{bet-bad, bet-refused, bet-paid}
use Rattle.table.proofs.Sound.{passed}
use Rattle.table.proofs.GameState.do_bet.Goals as goal

pub returns-then-not-is_sound : goal.returns-then-not-is_sound
returns-then-not-is_sound c =
    let a = c.args in
    bet-bad a.self a.amount a.is_forced _ c.is_sound.ensures c.if-not-is_sound.true

pub payer-payer-requires : goal.payer-payer-requires
payer-payer-requires c =
    (passed c.args.self _ c.is_sound.ensures c.if-not-is_sound.false).place

pub with_payer-requires : goal.with_payer-requires
with_payer-requires c =
    (passed c.args.self _ c.is_sound.ensures c.if-not-is_sound.false).place

pub returns-in-Err : goal.returns-in-Err
returns-in-Err c =
    let a = c.args in
    bet-refused a.self a.amount a.is_forced _ c.is_sound.ensures c.if-not-is_sound.false _ (c.verdict.ensures ∙ λ i. verdict_of (c.payer-payer.ensures i) a.amount a.is_forced) _ c.in-Err.is

pub returns-in-Ok : goal.returns-in-Ok
returns-in-Ok c =
    let a = c.args in
    let t = a.self in
    let x = c.in-Ok.x in
    let p = c.pay-paid.ensures ∙ λ i. pay_of (c.payer-payer.ensures i) x a.is_forced in
    let w = c.walk-w.ensures ∙ λ i. walk_of (p i).owing t.round_data.player_bet_len (p i).seat in
    (λ i. paid x c.walk-w.result.passed (c.with_payer.ensures i))
    ∙ (λ i. paid x (w i).passed (with_payer t (seated (p i) (w i).seat)))
    ∙ bet-paid t a.amount a.is_forced _ c.is_sound.ensures c.if-not-is_sound.false _ (c.verdict.ensures ∙ λ i. verdict_of (c.payer-payer.ensures i) a.amount a.is_forced) _ c.in-Ok.is
