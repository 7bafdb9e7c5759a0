-- `rounds::walking::distance_to`: the first place of the set that lies ahead, or none. Assumes nothing.
use native.Mathlib.Omega.{arith}
use mathlib.Core.Path.{sym}
use Rattle.rounds.proofs.LawsAhead.{first-owes, none_owes}
use Rattle.rounds.proofs.walking.distance_to.Goals as goal

pub returns-then-first-last : goal.returns-then-first-last
returns-then-first-last c =
    sym (first-owes _ _ _ c.requires.seat_lt_n c.requires.n_bound _ _ c.ahead.ensures c.next-first.ensures (omega (arith, c.if-first-last.true)))

pub returns-else-first-last : goal.returns-else-first-last
returns-else-first-last c =
    sym (none_owes _ _ _ c.requires.seat_lt_n c.requires.n_bound _ _ c.ahead.ensures c.next-first.ensures (omega (arith, c.if-first-last.false)))
