-- `journal::reading::numbers_at`: what is laid so far and the entries that are left are what the line comes to. Assumes nothing.
use mathlib.Core.Path.{sym, ap, ◌∙◌}
use native.Mathlib.Omega.{arith}
use Rattle.journal.specs.Entry.{is_number}
use Rattle.journal.proofs.LawsReading.{begins, stops, goes_on, whole}
use Rattle.journal.proofs.reading.numbers_at.Goals as goal

pub loop-at-init : goal.loop-at-init
loop-at-init c = (omega arith, begins _ _ _)

pub returns-then-not-is_number : goal.returns-then-not-is_number
returns-then-not-is_number c =
    sym (c.loop-at.invariant.1 ∙ stops _ _ _ _ _ c.loop-at-test.true (ap is_number (sym c.hand_entry-w.ensures) ∙ sym c.is_number.ensures ∙ c.if-not-is_number.true))

pub loop-at-preserved : goal.loop-at-preserved
loop-at-preserved c =
    let inv = c.loop-at.invariant in (
      omega arith,
      inv.1 ∙ goes_on _ _ _ _ _ _ _ c.loop-at-test.true (ap is_number (sym c.hand_entry-w.ensures) ∙ sym c.is_number.ensures ∙ c.if-not-is_number.false) (c.upper.ensures ∙ rw c.hand_entry-w.ensures) c.put_number-more.ensures,
    )

pub returns : goal.returns
returns c = sym (c.loop-at.invariant.1 ∙ whole _ _ _ _ _ c.loop-at-test.false)
