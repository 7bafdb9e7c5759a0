-- Any pair of results that the `ensures` of a public function allows is equal, each by the one law `same`. The checker writes `ended`, the function's
-- signature, and `Learnt`, what a caller learns from its `ensures`. `.ci/functions --check` asks a line for each public function. Assumes nothing.
use Rattle.commons.proofs.OneResult.{OneResult, same, only}
use Rattle.amounts.proofs as crate
use Rattle.amounts.specs.contracts as promised

pub of_slice_lem : OneResult promised.of_slice.ended crate.of_slice.Reads.Learnt
of_slice_lem κs a x y = only same

pub kept : OneResult promised.kept.ended crate.kept.Reads.Learnt
kept κs a x y = only same

pub cleared : OneResult promised.cleared.ended crate.cleared.Reads.Learnt
cleared κs a x y = only same

pub sum : OneResult promised.sum.ended crate.sum.Reads.Learnt
sum κs a x y = only same

pub largest : OneResult promised.largest.ended crate.largest.Reads.Learnt
largest κs a x y = only same

pub count-above-zero : OneResult promised.count_above_zero.ended crate.count_above_zero.Reads.Learnt
count-above-zero κs a x y = only same

pub is-invalid : OneResult promised.is_invalid.ended crate.is_invalid.Reads.Learnt
is-invalid κs a x y = only same

pub any_invalid_lem : OneResult promised.any_invalid.ended crate.any_invalid.Reads.Learnt
any_invalid_lem κs a x y = only same
