-- `settlement::settle`: each case of the verdict. Assumes nothing.
use Rattle.std.proofs.Common.{sym, ◌∙◌}
use Rattle.settlement.proofs.Accepted.{settled-by, verdict-paid}
use Rattle.table.proofs.Sound.{sound}
use Rattle.settlement.proofs.settle.Goals as goal

pub paid_out-requires : goal.paid_out-requires
paid_out-requires c =
    let t = c.args.table in
    (sound t (verdict-paid t c.is_payable.result (sym c.verdict.ensures ∙ c.in-Ok.is)).sounds).most

pub returns-in-Ok : goal.returns-in-Ok
returns-in-Ok c =
    let hand = c.hand_of-h.ensures in
    c.paid_out.ensures
    ∙ rw (c.awards.ensures, hand) (settled-by _ _ _ _ _ _ hand c.is_payable.ensures c.verdict.ensures c.in-Ok.is)

pub returns-in-Err : goal.returns-in-Err
returns-in-Err c =
    let a = c.args in
    settled-by a.table a.ranks _ _ _ _ c.hand_of-h.ensures c.is_payable.ensures c.verdict.ensures c.in-Err.is
