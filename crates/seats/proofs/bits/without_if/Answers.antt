-- `seats::bits::without_if`: each arm by its test. Assumes nothing.
use Rattle.seats.proofs.bits.without_if.Goals as goal

pub returns-then-test : goal.returns-then-test
returns-then-test c = simp (c.if-test.true, c.without.ensures)
