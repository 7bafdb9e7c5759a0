-- `peatcloak::outcomes::lay_verdict`: the number is the verdict's. Assumes nothing.
use lib.Ieee.{of_bits}
use Rattle.floats.specs.Helpers.{zerof}
use Rattle.layout.specs.Outcome.{outcome}
use Rattle.peatcloak.proofs.LawsCalls.{same_after}
use Rattle.peatcloak.proofs.outcomes.lay_verdict.Goals as goal

pub returns : goal.returns
unfolding of_bits
returns c =
    let a = c.args in
    let t' = same_after a.floats.now a.numbers.now _ _ _ _ _ (λ i. outcome (c.verdict_number.ensures i) a.t zerof 0) (c.lay.ensures.value, (c.lay.ensures.floats_after, (c.lay.ensures.numbers_after, c.lay.ensures.stands))) in record { value = t'.0; floats_after = t'.1.0; numbers_after = t'.1.1.0; stands = t'.1.1.1 }
