-- Any pair of results that the `ensures` of a public function allows is equal, each by the one law `same`. The checker writes `ended`, the function's
-- signature, and `Learnt`, what a caller learns from its `ensures`. `.ci/functions --check` asks a line for each public function. Assumes nothing.
use Rattle.commons.proofs.OneResult.{OneResult, same, only}
use Rattle.chips.proofs as crate
use Rattle.chips.specs.contracts as promised

pub is_whole : OneResult promised.is_whole.ended crate.is_whole.Reads.Learnt
is_whole κs a x y = only same

pub chips_in_lem : OneResult promised.chips_in.ended crate.chips_in.Reads.Learnt
chips_in_lem κs a x y = only same

pub all_whole_lem : OneResult promised.all_whole.ended crate.all_whole.Reads.Learnt
all_whole_lem κs a x y = only same

pub sum-chips : OneResult promised.sum_chips.ended crate.sum_chips.Reads.Learnt
sum-chips κs a x y = only same
