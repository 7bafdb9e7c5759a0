-- `journal::lines::are_lines`: what is left of the words, read from where the reading stands, has the same answer. Assumes nothing.
use Prim.Native.Nat.{◌<◌, ◌≤◌}
use mathlib.Core.Path.{sym, ap, ◌∙◌}
use native.Mathlib.Omega.{arith}
use lib.ListN.{length}
use Rattle.journal.specs.Lines.{allowed}
use Rattle.journal.proofs.LawsLines.{spells-none, spells-other, spells_table, spelt-stops, spelt-next, spelt-end}
use Rattle.journal.proofs.lines.are_lines.Goals as goal

pub returns-then-n-eq0 : goal.returns-then-n-eq0
returns-then-n-eq0 g c ws long at = spells-none ws (long ∙ c.if-n-eq0.true)

pub returns-then-word-ne-TABLE : goal.returns-then-word-ne-TABLE
returns-then-word-ne-TABLE g c ws long at =
    spells-other ws (λ e. c.if-word-ne-TABLE.true (at 0 c.word.result (omega arith) c.word.ensures ∙ e))

pub loop-i-init : goal.loop-i-init
loop-i-init g c =
    (omega arith, λ ws long at. spells_table ws (sym (at 0 c.word.result (omega arith) c.word.ensures) ∙ c.if-word-ne-TABLE.false))

pub returns-then-not-is_allowed : goal.returns-then-not-is_allowed
returns-then-not-is_allowed g c ws long at =
    let is = at c.loop-i.i c.word-w.result c.loop-i-test.true c.word-w.ensures in
    let inside : c.loop-i.i < length ws = omega (arith, long) in
    spelt-stops _ _ _ _ _ inside (ap (allowed _ _ _) (sym is) ∙ sym c.is_allowed.ensures ∙ c.if-not-is_allowed.true) ∙ sym (c.loop-i.invariant.1 ws long at)

pub loop-i-preserved : goal.loop-i-preserved
loop-i-preserved g c =
    let next = c.after-line.ensures in (
      omega arith,
      λ ws long at.
          let is = at c.loop-i.i c.word-w.result c.loop-i-test.true c.word-w.ensures in
          let inside : c.loop-i.i < length ws = omega (arith, long) in
          c.loop-i.invariant.1 ws long at
          ∙ spelt-next _ _ _ _ _ _ _ _ inside (ap (allowed _ _ _) (sym is) ∙ sym c.is_allowed.ensures ∙ c.if-not-is_allowed.false) (next.name ∙ rw is) (next.count ∙ rw is) (next.stacks ∙ rw is),
    )

pub returns : goal.returns
returns g c ws long at =
    let past : length ws ≤ c.loop-i.i = omega (arith, long) in
    c.is_whole.ensures ∙ sym (c.loop-i.invariant.1 ws long at ∙ spelt-end _ _ _ _ _ past)
