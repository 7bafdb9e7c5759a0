-- `rounds::walking::walk`: each arm by the test that the seat is one of a table of up to 16. Assumes nothing.
use lib.Dec.{ltb, leb}
use borrow.Author.Tests.{ltb-true}
use Rattle.commons.proofs.Bools.{and_both}
use Rattle.rounds.specs.Walk.{walk_of}
use Rattle.rounds.proofs.walking.walk.Goals as goal

pub walk_from-requires : goal.walk_from-requires
walk_from-requires c =
    let start = c.args in
    let both = and_both (ltb start.seat start.n) (leb start.n 16) c.if-seat-n.true in
    ltb-true _ _ both.0

pub returns-then-seat-n : goal.returns-then-seat-n
unfolding walk_of
returns-then-seat-n c = simp (c.if-seat-n.true, c.walk_from.ensures)

pub returns : goal.returns
unfolding walk_of
returns c = simp c.if-seat-n.false
