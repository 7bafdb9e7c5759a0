-- `recorder::recording::fill`: after some lines `Filling` holds, and the place goes up with each. Assumes nothing.
use native.Mathlib.Omega.{arith}
use Prim.Native.Nat.{ℕ}
use mathlib.Core.Path.{sym, ap, ◌∙◌}
use mathlib.Core.Bool.{not, ◌&&◌}
use lib.Dec.{eqb}
use Rattle.script.specs.Ascii.{is}
use borrow.Author.Rules.{rules}
use Rattle.recorder.proofs.LawsTaking.{line, goes-up}
use Rattle.recorder.proofs.LawsFilling.{begins, fills_on, closes, ends}
use Rattle.recorder.proofs.recording.fill.Goals as goal

pub loop-at-init : goal.loop-at-init
loop-at-init c = begins _ _ _ _ _

pub loop-at-smaller : goal.loop-at-smaller
loop-at-smaller c =
    let x = line c.loop-at-test.true c.read_line-read.ensures c.obey-act.ensures in
    omega (arith, goes-up x, c.loop-at-test.true)

pub loop-at-preserved : goal.loop-at-preserved
loop-at-preserved c =
    let x = line c.loop-at-test.true c.read_line-read.ensures c.obey-act.ensures in
    fills_on c.loop-at.invariant x (sym (rw c.number-number.ensures at c.is_opening.ensures) ∙ c.if-is_opening.false) (c.is_line.ensures ∙ ap (λ (n : ℕ). not (is c.read_line-read.result.words.letter "k") && eqb n 0) c.number-number.ensures) c.lay-f.ensures.value c.lay-f.ensures.tape_after (search rules)

pub shape_of-tape-after-loop-at : goal.shape_of-tape-after-loop-at
shape_of-tape-after-loop-at c = c.loop-at.invariant.long

pub returns-after-loop-at : goal.returns-after-loop-at
returns-after-loop-at c = let t' = ends c.loop-at.invariant _ c.loop-at-test.false in record { value = t'.0; tape_after = t'.1 }

pub shape_of-tape-then-is_opening : goal.shape_of-tape-then-is_opening
shape_of-tape-then-is_opening c = c.loop-at.invariant.long

pub returns-then-is_opening : goal.returns-then-is_opening
returns-then-is_opening c =
    let x = line c.loop-at-test.true c.read_line-read.ensures c.obey-act.ensures in
    let t' = closes c.loop-at.invariant x _ (sym (rw c.number-number.ensures at c.is_opening.ensures) ∙ c.if-is_opening.true) in record { value = t'.0; tape_after = t'.1 }
