-- `rounds::RoundData::do_bet`: each arm by its tests. Assumes nothing.
use mathlib.Core.Path.{sym, ap, ◌∙◌}
use Rattle.rounds.specs.Paying.{is_full, staked}
use Rattle.rounds.specs.Steps.{done, with_stake}
use Rattle.rounds.proofs.Bet.{bad, full, paid}
use Rattle.rounds.proofs.Sound.{sound}
use Rattle.rounds.proofs.RoundData.do_bet.Goals as goal

pub stake-stake-requires : goal.stake-stake-requires
stake-stake-requires c = (sound _ _ _ (sym c.is_sound.ensures ∙ c.if-is_sound.true)).place

pub returns-then-is_full : goal.returns-then-is_full
returns-then-is_full c =
    let a = c.args in
    rw c.into.ensures (full a.self a.extra_amount a.is_forced _ c.is_sound.ensures c.if-is_sound.true _ (c.is_full.ensures ∙ (λ i. is_full (c.stake-stake.ensures i) a.extra_amount a.is_forced)) c.if-is_full.true)

pub with_stake-requires : goal.with_stake-requires
with_stake-requires c =
    (sound _ _ _ (sym c.is_sound.ensures ∙ c.if-is_sound.true)).place

pub returns-then-is_sound : goal.returns-then-is_sound
returns-then-is_sound c =
    let a = c.args in
    let is = c.stake-stake.ensures in
    ap (done 0) (c.with_stake.ensures ∙ ap (with_stake a.self) (c.put_in.ensures ∙ λ i. staked (is i) a.extra_amount a.is_forced))
    ∙ paid a.self a.extra_amount a.is_forced _ c.is_sound.ensures c.if-is_sound.true _ (c.is_full.ensures ∙ (λ i. is_full (is i) a.extra_amount a.is_forced)) c.if-is_full.false

pub returns : goal.returns
returns c =
    let a = c.args in
    rw c.into-2.ensures (bad a.self a.extra_amount a.is_forced _ c.is_sound.ensures c.if-is_sound.false)
