-- Any pair of results that the `ensures` of a public function allows is equal, each by the one law `same`. The checker writes `ended`, the function's
-- signature, and `Learnt`, what a caller learns from its `ensures`. `.ci/functions --check` asks a line for each public function. Assumes nothing.
use Rattle.commons.proofs.OneResult.{OneResult, same, only, ◌and◌, past, first}
use Rattle.console.proofs as crate
use Rattle.console.specs.contracts as promised

-- ---- src/act.rt
pub number : OneResult promised.act.Act.number.ended crate.act.Act.number.Reads.Learnt
number κs a x y = only same

pub obey : OneResult promised.act.obey.ended crate.act.obey.Reads.Learnt
obey κs a x y = only same

-- ---- src/ending.rt
pub end_of : OneResult promised.ending.end_of.ended crate.ending.end_of.Reads.Learnt
end_of κs a x y = only same

-- ---- src/play.rt
pub start : OneResult promised.play.start.ended crate.play.start.Reads.Learnt
start κs a x y = only same

pub play-line : OneResult promised.play.play_line.ended crate.play.play_line.Reads.Learnt
play-line κs a x y = only (first same)

pub play-script : OneResult promised.play.play_script.ended crate.play.play_script.Reads.Learnt
play-script κs a x y = same and past (past (past (only same)))

-- ---- src/shown.rt
pub amount-of : OneResult promised.shown.amount_of.ended crate.shown.amount_of.Reads.Learnt
amount-of κs a x y = only same

pub view_of : OneResult promised.shown.view_of.ended crate.shown.view_of.Reads.Learnt
view_of κs a x y = only same
