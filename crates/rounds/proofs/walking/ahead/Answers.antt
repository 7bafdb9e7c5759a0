-- `rounds::walking::ahead`: the shifted one is 2 ^ n; the rest is a law of the turned set. Assumes nothing.
use Prim.Native.Nat.{ℕ, ◌+◌, ◌-◌, ◌*◌, ◌/◌, ◌%◌, ◌^◌}
use native.Mathlib.Omega.{arith}
use mathlib.Core.Path.{sym, subst}
use lib.Bits.{bit_or}
use lib.Pow.{pow_pos}
use Rattle.rounds.specs.Walk.{Ahead}
use Rattle.seats.proofs.Laws.{shifted}
use Rattle.rounds.proofs.LawsAhead.{lies_ahead}
use Rattle.rounds.proofs.walking.ahead.Goals as goal

pub nonzero_rem-all : goal.nonzero_rem-all
nonzero_rem-all c = rw (shifted c.args.n 32 (omega (arith, c.requires.n_bound))) (pow_pos c.args.n)

pub returns : goal.returns
returns c =
    let owing = c.args.owing in
    let n = c.args.n in
    let s = c.args.seat in
    subst (λ (one : ℕ). Ahead owing n s (bit_or (owing % one / 2 ^ (s + 1)) (owing % one * 2 ^ (n - (s + 1)) % 2 ^ 32) % 2 ^ 16))
    (sym (shifted n 32 (omega (arith, c.requires.n_bound))))
    (lies_ahead owing n s c.requires.seat_lt_n c.requires.n_bound)
