-- `peatcloak::next_round::clear_bets`: zeros between what stood before and behind them. Assumes nothing.
use Prim.Native.Nat.{◌+◌, ◌-◌}
use native.Mathlib.Omega.{arith}
use mathlib.Core.Path.{◌≡◌, ◌∙◌}
use lib.Ieee.{of_bits}
use lib.ListN.{drop, replicate}
use Rattle.std.proofs.lemmas.List.{length-take-le, length-drop}
use Rattle.floats.specs.Helpers.{zerof}
use Rattle.layout.specs.Places.{ROUND_BETS}
use Rattle.peatcloak.proofs.LawsNextRound.{bets-filled}
use Rattle.peatcloak.proofs.next_round.clear_bets.Goals as goal

pub returns : goal.returns
unfolding of_bits
returns c =
    let a = c.args in
    let fs = a.floats.now in
    let r = c.requires in
    let same : ROUND_BETS + a.n - ROUND_BETS ≡ a.n = omega arith in
    bets-filled fs a.n _ (omega (arith, r.in_bounds, r.n_bound))
    (c.fill.ensures.after (λ y e. e) ∙ (λ i. replicate (length-take-le (ROUND_BETS + a.n - ROUND_BETS) (drop ROUND_BETS fs) (omega (arith, r.in_bounds, r.n_bound, length-drop ROUND_BETS fs)) i) zerof) ∙ λ i. replicate (same i) zerof)
