-- Any pair of results that the `ensures` of a public function allows is equal, each by the one law `same`. The checker writes `ended`, the function's
-- signature, and `Learnt`, what a caller learns from its `ensures`. `.ci/functions --check` asks a line for each public function. Assumes nothing.
use Rattle.commons.proofs.OneResult.{OneResult, same, only, ◌and◌, first}
use Rattle.parts.proofs as crate
use Rattle.parts.specs.contracts as promised

-- ---- src/float_calls.rt
pub peatcloak_max : OneResult promised.float_calls.peatcloak_max.ended crate.float_calls.peatcloak_max.Reads.Learnt
peatcloak_max κs a x y = only same

pub peatcloak_min : OneResult promised.float_calls.peatcloak_min.ended crate.float_calls.peatcloak_min.Reads.Learnt
peatcloak_min κs a x y = only same

pub peatcloak_tol : OneResult promised.float_calls.peatcloak_tol.ended crate.float_calls.peatcloak_tol.Reads.Learnt
peatcloak_tol κs a x y = only same

pub peatcloak_abs : OneResult promised.float_calls.peatcloak_abs.ended crate.float_calls.peatcloak_abs.Reads.Learnt
peatcloak_abs κs a x y = only same

pub peatcloak_is_sign_negative : OneResult promised.float_calls.peatcloak_is_sign_negative.ended crate.float_calls.peatcloak_is_sign_negative.Reads.Learnt
peatcloak_is_sign_negative κs a x y = only same

pub peatcloak_is-nan : OneResult promised.float_calls.peatcloak_is_nan.ended crate.float_calls.peatcloak_is_nan.Reads.Learnt
peatcloak_is-nan κs a x y = only same

pub peatcloak_is_near_zero : OneResult promised.float_calls.peatcloak_is_near_zero.ended crate.float_calls.peatcloak_is_near_zero.Reads.Learnt
peatcloak_is_near_zero κs a x y = only same

-- ---- src/running.rt
pub peatcloak_run_bets : OneResult promised.running.peatcloak_run_bets.ended crate.running.peatcloak_run_bets.Reads.Learnt
peatcloak_run_bets κs a x y = same and same and only (first same)
