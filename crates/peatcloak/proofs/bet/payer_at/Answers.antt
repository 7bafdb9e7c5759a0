-- `peatcloak::bet::payer_at`: each field is what stands at its place. Assumes nothing.
use mathlib.Core.Path.{◌∙◌}
use Prim.Native.Nat.{◌+◌}
use Rattle.rounds.specs.Paying.{payer_of, stake_of}
use Rattle.layout.specs.Places.{TOTAL_POT, ROUND_BET, MIN_RAISE, STACKS, HAND_BETS, ROUND_BETS}
use Rattle.layout.specs.Words.{float_at}
use Rattle.peatcloak.proofs.LawsPut.{payer_read}
use Rattle.peatcloak.proofs.bet.payer_at.Goals as goal

pub returns : goal.returns
returns c =
    let fs = c.args.floats.now in
    let seat = c.number_at-i.ensures in
    (λ i.
    payer_of
    (stake_of (float_at fs (ROUND_BETS + seat i)) (float_at fs ROUND_BET) (float_at fs MIN_RAISE) (c.byte_at.ensures i) (c.byte_at-2.ensures i) (c.byte_at-3.ensures i))
    (float_at fs (STACKS + seat i)) (float_at fs (HAND_BETS + seat i)) (float_at fs TOTAL_POT)
    (c.set_at.ensures i) (c.set_at-2.ensures i) (c.set_at-3.ensures i) (seat i))
    ∙ payer_read fs c.args.numbers.now c.requires.in_bounds c.requires.numbers_bound
