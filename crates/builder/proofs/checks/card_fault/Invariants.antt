-- `builder::checks::card_fault`: no card before place i is at fault, so that the first fault is that of the cards from i on. Assumes nothing.
use Prim.Native.Nat.{◌-◌, min}
use mathlib.Core.Path.{◌≡◌}
use Rattle.refusals.specs.Rows.{judge}
use Rattle.builder.specs.Cards.{card_rows}
use Rattle.builder.proofs.checks.card_fault.Given as goal

abbrev pub invariant-loop-i : goal.invariant-loop-i
invariant-loop-i l =
    let n = min l.len 5 in
    judge (card_rows n 0 l.fn.list) ≡ judge (card_rows (n - l.i) l.i l.fn.list)
