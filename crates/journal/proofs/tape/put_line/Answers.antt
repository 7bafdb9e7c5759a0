-- `journal::tape::put_line`: by the line's form and the room, then letter and numbers. Assumes nothing.
use mathlib.Core.Path.{◌∙◌}
use native.Mathlib.Omega.{arith}
use lib.ListN.{length-set}
use Rattle.journal.proofs.LawsTape.{no_line, past, short, laid}
use Rattle.journal.proofs.tape.put_line.Goals as goal

pub returns-then-not-count_ok : goal.returns-then-not-count_ok
returns-then-not-count_ok c = let t' = no_line c.args.tape.now c.args.at c.args.letter c.args.numbers.now _ (c.count_ok.ensures ∙ rw c.from-name.ensures) c.if-not-count_ok.true in record { answer = t'.0; tape = t'.1 }

pub returns-then-tape-at : goal.returns-then-tape-at
returns-then-tape-at c = let t' = past c.args.tape.now c.args.at c.args.letter c.args.numbers.now _ (c.count_ok.ensures ∙ rw c.from-name.ensures) c.if-not-count_ok.false c.if-tape-at.true in record { answer = t'.0; tape = t'.1 }

pub returns-then-tape-at-2 : goal.returns-then-tape-at-2
returns-then-tape-at-2 c = let t' = short c.args.tape.now c.args.at c.args.letter c.args.numbers.now _ (c.count_ok.ensures ∙ rw c.from-name.ensures) c.if-not-count_ok.false c.if-tape-at.false c.if-tape-at-2.true in record { answer = t'.0; tape = t'.1 }

pub put_numbers-requires : goal.put_numbers-requires
put_numbers-requires c = simp length-set (omega arith)

pub shape_of-tape : goal.shape_of-tape
shape_of-tape c = c.put_numbers.auto.tape ∙ simp length-set

pub returns : goal.returns
returns c = let t' = laid c.args.tape.now c.args.at c.args.letter c.args.numbers.now _ (c.count_ok.ensures ∙ rw c.from-name.ensures) c.if-not-count_ok.false _ c.if-tape-at.false c.if-tape-at-2.false (c.put_numbers.ensures ∙ rw c.from-name.ensures) in record { answer = t'.0; tape = t'.1 }
