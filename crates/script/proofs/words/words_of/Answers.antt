-- `script::words::words_of` meets its contract. The invariant: what is laid so far and the words that are left are what the line comes
-- to. The count is below the place, so that it fits. Assumes nothing.
use mathlib.Core.Path.{sym, ◌∙◌}
use native.Mathlib.Omega.{arith}
use Rattle.script.proofs.LawsWords.{stops, goes_on, whole, no-letter, filled, has-letter}
use Rattle.script.proofs.words.words_of.Goals as goal

pub returns-then-find-ne1 : goal.returns-then-find-ne1
returns-then-find-ne1 c =
    c.no_words.ensures ∙ sym (no-letter _ (λ e. c.if-find-ne1.true (c.find.ensures.value ∙ e)))

pub bounds-line-0 : goal.bounds-line-0
bounds-line-0 c = filled _ (sym c.find.ensures.value ∙ c.if-find-ne1.false)

pub loop-at-init : goal.loop-at-init
loop-at-init c = (omega arith, has-letter _ (sym c.find.ensures.value ∙ c.if-find-ne1.false))

pub loop-at-preserved : goal.loop-at-preserved
loop-at-preserved c =
    let inv = c.loop-at.invariant in (
      omega arith,
      inv.1 ∙ goes_on _ _ _ _ _ c.loop-at-test.true _ c.find-end.ensures.value _ _ (sym c.number_of.ensures ∙ c.in-Some.is) c.put_number-more.ensures,
    )

pub returns-in_default : goal.returns-in_default
returns-in_default c =
    c.no_words-in_default.ensures ∙ sym (c.loop-at.invariant.1 ∙ stops _ _ _ _ _ c.loop-at-test.true _ c.find-end.ensures.value (sym c.number_of.ensures ∙ c.in_default.is))

pub returns : goal.returns
returns c = sym (c.loop-at.invariant.1 ∙ whole _ _ _ _ _ c.loop-at-test.false)
