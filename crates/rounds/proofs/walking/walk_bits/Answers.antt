-- `rounds::walking::walk_bits`: the next seat, or the seat so many places on, below n or once round. Assumes nothing.
use native.Mathlib.Omega.{arith}
use mathlib.Core.Path.{sym, ◌∙◌}
use Rattle.rounds.proofs.Walk.{distance_high}
use Rattle.rounds.proofs.LawsAhead.{next-owes, seat-below, seat-round}
use Rattle.rounds.proofs.walking.walk_bits.Goals as goal

pub returns-then-has : goal.returns-then-has
returns-then-has c =
    next-owes _ _ _ c.requires.seat_lt_n c.requires.n_bound _ c.next-one.ensures (sym c.has.ensures ∙ c.if-has.true)

pub overflow_add-at : goal.overflow_add-at
overflow_add-at c =
    omega (arith, c.distance_to-passed.ensures, distance_high c.args.owing c.args.n c.args.seat c.requires.seat_lt_n, c.requires.seat_lt_n, c.requires.n_bound)

pub returns-then-at-n : goal.returns-then-at-n
returns-then-at-n c =
    seat-below _ _ _ c.requires.seat_lt_n c.requires.n_bound _ c.distance_to-passed.ensures c.if-at-n.true

pub returns : goal.returns
returns c =
    seat-round _ _ _ c.requires.seat_lt_n c.requires.n_bound _ c.distance_to-passed.ensures c.if-at-n.false
