-- Any pair of results that the `ensures` of a public function allows is equal, each by the one law `same`. The checker writes `ended`, the function's
-- signature, and `Learnt`, what a caller learns from its `ensures`. `.ci/functions --check` asks a line for each public function. Assumes nothing.
use Rattle.commons.proofs.OneResult.{OneResult, same, only, ◌and◌, past}
use Rattle.recorder.proofs as crate
use Rattle.recorder.specs.contracts as promised

-- ---- src/recording.rt
pub next-hand : OneResult promised.recording.next_hand.ended crate.recording.next_hand.Reads.Learnt
next-hand κs a x y = same and past (past (past (only same)))

-- ---- src/replaying.rt
pub number : OneResult promised.replaying.Replayed.number.ended crate.replaying.Replayed.number.Reads.Learnt
number κs a x y = only same

pub replay_hand : OneResult promised.replaying.replay_hand.ended crate.replaying.replay_hand.Reads.Learnt
replay_hand κs a x y = only same
