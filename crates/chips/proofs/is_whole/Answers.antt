-- `chips::is_whole`: between 0 and 8,000 the cast cuts the fraction, and what is left equals the amount where there was none. Assumes nothing.
use Rattle.std.proofs.Common.{◌∙◌, arith}
use lib.Ieee.{of_bits, of_int}
use Rattle.chips.proofs.Whole.{in_range_lem, castable, cast_is, part-le, tested, untested}
use Rattle.chips.proofs.is_whole.Goals as goal

pub truncating_f32_to_u64-k-requires : goal.truncating_f32_to_u64-k-requires
unfolding of_bits of_int
truncating_f32_to_u64-k-requires c = let b = castable _ (in_range_lem _ c.if-x.true) in record { lower_bound = b.0; upper_bound = b.1 }

pub overflow_cast-k : goal.overflow_cast-k
unfolding of_bits of_int
overflow_cast-k c = let b = in_range_lem _ c.if-x.true in record { fits = omega (arith, c.truncating_f32_to_u64-k.ensures ∙ cast_is _ b, part-le _ b) }

pub returns-then-x : goal.returns-then-x
unfolding of_bits of_int
returns-then-x c = tested _ _ c.if-x.true c.truncating_f32_to_u64-k.ensures

pub returns : goal.returns
unfolding of_bits of_int
returns c = untested _ c.if-x.false
