-- `script::words::words_of` meets its contract. The invariant: what is laid so far and the words that are left are what the line comes
-- to. The count is below the place, so that it fits. Assumes nothing.
use Prim.Native.Nat.{◌-◌, ◌≤◌}
use mathlib.Core.Path.{◌≡◌}
use lib.ListN.{length}
use Rattle.script.specs.Words.{words_of}
use Rattle.script.proofs.LawsWords.{after, left}
use Rattle.script.proofs.words.words_of.Given as goal

abbrev pub invariant-loop-at : goal.invariant-loop-at
invariant-loop-at l = (l.count ≤ l.at) × (words_of l.line ≡ after l.letter l.count l.numbers (left l.line l.at))

abbrev pub decreases-loop-at : goal.decreases-loop-at
decreases-loop-at l = length l.line - l.at
