-- `script::words::number_of` meets its contract. The invariant: after some digits of value v what is left decides. Assumes nothing.
use mathlib.Core.Path.{sym, ◌∙◌}
use native.Mathlib.Omega.{arith}
use Rattle.script.proofs.LawsNumber.{no_form, not_digit, too_large, goes_on, whole}
use Rattle.script.proofs.words.number_of.Goals as goal

pub returns-then-not-is_unpadded : goal.returns-then-not-is_unpadded
returns-then-not-is_unpadded c = sym (no_form _ (sym c.is_unpadded.ensures ∙ c.if-not-is_unpadded.true))

pub returns-then-not-is_ascii_digit : goal.returns-then-not-is_ascii_digit
returns-then-not-is_ascii_digit c =
    sym (not_digit _ _ _ c.loop-b.invariant c.loop-b-test.true (sym c.is_ascii_digit.ensures.value ∙ c.if-not-is_ascii_digit.true))

pub returns-then-v-gt65535 : goal.returns-then-v-gt65535
returns-then-v-gt65535 c =
    sym (too_large _ _ _ c.loop-b.invariant c.loop-b-test.true (omega arith))

pub loop-b-preserved : goal.loop-b-preserved
loop-b-preserved c =
    goes_on _ _ _ c.loop-b.invariant c.loop-b-test.true (sym c.is_ascii_digit.ensures.value ∙ c.if-not-is_ascii_digit.false) c.if-v-gt65535.false

pub returns : goal.returns
returns c =
    sym (whole _ _ _ c.loop-b.invariant (sym c.is_unpadded.ensures ∙ c.if-not-is_unpadded.false) c.loop-b-test.false)
