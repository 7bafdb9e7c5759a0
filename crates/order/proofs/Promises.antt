-- Any pair of results that the `ensures` of a public function allows is equal, each by the one law `same`. The checker writes `ended`, the function's
-- signature, and `Learnt`, what a caller learns from its `ensures`. `.ci/functions --check` asks a line for each public function. Assumes nothing.
use Rattle.commons.proofs.OneResult.{OneResult, same, only}
use Rattle.order.proofs as crate
use Rattle.order.specs.contracts as promised

pub in_good_order_lem : OneResult promised.in_good_order.ended crate.in_good_order.Reads.Learnt
in_good_order_lem κs a x y = only same
