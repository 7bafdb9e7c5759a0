-- Any pair of results that the `ensures` of a public function allows is equal, each by the one law `same`. The checker writes `ended`, the function's
-- signature, and `Learnt`, what a caller learns from its `ensures`. `.ci/functions --check` asks a line for each public function. Assumes nothing.
use Rattle.commons.proofs.OneResult.{OneResult, same, only}
use Rattle.keys.proofs as crate
use Rattle.keys.specs.contracts as promised

-- ---- src/lib.rt
pub is-key : OneResult promised.HandKey.is_key.ended crate.HandKey.is_key.Reads.Learnt
is-key κs a x y = only same

pub is-good : OneResult promised.HandKey.is_good.ended crate.HandKey.is_good.Reads.Learnt
is-good κs a x y = only same

pub is_same_lem : OneResult promised.HandKey.is_same.ended crate.HandKey.is_same.Reads.Learnt
is_same_lem κs a x y = only same

pub is-before : OneResult promised.HandKey.is_before.ended crate.HandKey.is_before.Reads.Learnt
is-before κs a x y = only same
