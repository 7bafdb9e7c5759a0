-- Any pair of results that the `ensures` of a public function allows is equal, each by the one law `same`. The checker writes `ended`, the function's
-- signature, and `Learnt`, what a caller learns from its `ensures`. `.ci/functions --check` asks a line for each public function. Assumes nothing.
use Rattle.commons.proofs.OneResult.{OneResult, same, only}
use Rattle.floats.proofs as crate
use Rattle.floats.specs.contracts as promised

pub infinity : OneResult promised.infinity.ended crate.infinity.Reads.Learnt
infinity κs a x y = only same

pub is-nan : OneResult promised.is_nan.ended crate.is_nan.Reads.Learnt
is-nan κs a x y = only same

pub max : OneResult promised.max.ended crate.max.Reads.Learnt
max κs a x y = only same

pub min : OneResult promised.min.ended crate.min.Reads.Learnt
min κs a x y = only same

pub is_sign_negative : OneResult promised.is_sign_negative.ended crate.is_sign_negative.Reads.Learnt
is_sign_negative κs a x y = only same

pub abs : OneResult promised.abs.ended crate.abs.Reads.Learnt
abs κs a x y = only same

pub tol : OneResult promised.tol.ended crate.tol.Reads.Learnt
tol κs a x y = only same

pub is_near_zero : OneResult promised.is_near_zero.ended crate.is_near_zero.Reads.Learnt
is_near_zero κs a x y = only same
