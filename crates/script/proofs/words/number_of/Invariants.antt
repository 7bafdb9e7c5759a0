-- `script::words::number_of` meets its contract. The invariant: after some digits of value v what is left decides. Assumes nothing.
use Rattle.script.proofs.LawsNumber.{Seen}
use Rattle.script.proofs.words.number_of.Given as goal

abbrev pub invariant-loop-b : goal.invariant-loop-b
invariant-loop-b l = Seen l.word l.v l.b-index
