-- `play::read_full`: what is read stands in the room. Assumes nothing.
use Rattle.std.proofs.Common.{length, ◌≤◌}
use Rattle.play.proofs.read_full.Given as goal

abbrev pub invariant-loop : goal.invariant-loop
invariant-loop g l = l.bytes ≤ length l.room
