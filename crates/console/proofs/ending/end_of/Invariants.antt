-- `console::ending::end_of`: what is left to play leads to the script's end, and 512 bytes have room for a line, so that the place goes up with each part.
-- Assumes nothing.
use Rattle.std.proofs.Common.{◌≡◌, ◌-◌, length}
use Rattle.console.specs.Ending.{end_of}
use Rattle.console.proofs.LawsEnding.{leads_to}
use Rattle.console.proofs.ending.end_of.Given as goal

abbrev pub invariant-loop-at : goal.invariant-loop-at
invariant-loop-at l = leads_to l.script l.at l.c.state ≡ end_of l.script

abbrev pub decreases-loop-at : goal.decreases-loop-at
decreases-loop-at l = length l.script - l.at
