-- `layout::outcome::lay`: by the number. Assumes nothing.
use Rattle.layout.specs.Outcome.{outcome}
use Rattle.layout.proofs.LawsOutcome.{accepted-after, refused-after}
use Rattle.layout.proofs.outcome.lay.Goals as goal

pub returns-then-number-eq0 : goal.returns-then-number-eq0
returns-then-number-eq0 c =
    let a = c.args in
    let t' = accepted-after a.floats.now a.numbers.now (outcome a.number a.t a.paid a.passed) _ _ c.if-number-eq0.true (c.lay.ensures.floats_after, (c.lay.ensures.numbers_after, c.lay.ensures.back)) in record { value = t'.0; floats_after = t'.1.0; numbers_after = t'.1.1.0; stands = t'.1.1.1 }

pub returns : goal.returns
returns c = let a = c.args in
    let t' = refused-after a.floats.now a.numbers.now (outcome a.number a.t a.paid a.passed) _ c.word_of_byte.ensures.value c.if-number-eq0.false in record { value = t'.0; floats_after = t'.1.0; numbers_after = t'.1.1.0; stands = t'.1.1.1 }
