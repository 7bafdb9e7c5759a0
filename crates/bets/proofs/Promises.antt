-- Any pair of results that the `ensures` of a public function allows is equal, each by the one law `same`. The checker writes `ended`, the function's
-- signature, and `Learnt`, what a caller learns from its `ensures`. `.ci/functions --check` asks a line for each public function. Assumes nothing.
use Rattle.commons.proofs.OneResult.{OneResult, same, only}
use Rattle.bets.proofs as crate
use Rattle.bets.specs.contracts as promised

pub validate-bet-amount : OneResult promised.validate_bet_amount.ended crate.validate_bet_amount.Reads.Learnt
validate-bet-amount κs a x y = only same

pub validate-forced-bet-amount : OneResult promised.validate_forced_bet_amount.ended crate.validate_forced_bet_amount.Reads.Learnt
validate-forced-bet-amount κs a x y = only same

pub validate : OneResult promised.validate.ended crate.validate.Reads.Learnt
validate κs a x y = only same
