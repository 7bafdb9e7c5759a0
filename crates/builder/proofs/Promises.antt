-- Any pair of results that the `ensures` of a public function allows is equal, each by the one law `same`. The checker writes `ended`, the function's
-- signature, and `Learnt`, what a caller learns from its `ensures`. `.ci/functions --check` asks a line for each public function. Assumes nothing.
use Rattle.commons.proofs.OneResult.{OneResult, same, only}
use Rattle.builder.proofs as crate
use Rattle.builder.specs.contracts as promised

pub new : OneResult promised.GameStateBuilder.new.ended crate.GameStateBuilder.new.Reads.Learnt
new κs a x y = only same

pub stacks : OneResult promised.GameStateBuilder.stacks.ended crate.GameStateBuilder.stacks.Reads.Learnt
stacks κs a x y = only same

pub big_blind : OneResult promised.GameStateBuilder.big_blind.ended crate.GameStateBuilder.big_blind.Reads.Learnt
big_blind κs a x y = only same

pub small_blind : OneResult promised.GameStateBuilder.small_blind.ended crate.GameStateBuilder.small_blind.Reads.Learnt
small_blind κs a x y = only same

pub ante : OneResult promised.GameStateBuilder.ante.ended crate.GameStateBuilder.ante.Reads.Learnt
ante κs a x y = only same

pub dealer_idx : OneResult promised.GameStateBuilder.dealer_idx.ended crate.GameStateBuilder.dealer_idx.Reads.Learnt
dealer_idx κs a x y = only same

pub max-raises-per-round : OneResult promised.GameStateBuilder.max_raises_per_round.ended crate.GameStateBuilder.max_raises_per_round.Reads.Learnt
max-raises-per-round κs a x y = only same

pub num_players_with-stack : OneResult promised.GameStateBuilder.num_players_with_stack.ended crate.GameStateBuilder.num_players_with_stack.Reads.Learnt
num_players_with-stack κs a x y = only same

pub blinds : OneResult promised.GameStateBuilder.blinds.ended crate.GameStateBuilder.blinds.Reads.Learnt
blinds κs a x y = only same

pub round : OneResult promised.GameStateBuilder.round.ended crate.GameStateBuilder.round.Reads.Learnt
round κs a x y = only same

pub board : OneResult promised.GameStateBuilder.board.ended crate.GameStateBuilder.board.Reads.Learnt
board κs a x y = only same

pub hands : OneResult promised.GameStateBuilder.hands.ended crate.GameStateBuilder.hands.Reads.Learnt
hands κs a x y = only same

pub player_bet : OneResult promised.GameStateBuilder.player_bet.ended crate.GameStateBuilder.player_bet.Reads.Learnt
player_bet κs a x y = only same

pub round_data : OneResult promised.GameStateBuilder.round_data.ended crate.GameStateBuilder.round_data.Reads.Learnt
round_data κs a x y = only same

pub build : OneResult promised.GameStateBuilder.build.ended crate.GameStateBuilder.build.Reads.Learnt
build κs a x y = only same

pub hand-key : OneResult promised.GameStateBuilder.hand_key.ended crate.GameStateBuilder.hand_key.Reads.Learnt
hand-key κs a x y = only same

pub verdict : OneResult promised.GameStateBuilder.verdict.ended crate.GameStateBuilder.verdict.Reads.Learnt
verdict κs a x y = only same

pub round_or_starting : OneResult promised.GameStateBuilder.round_or_starting.ended crate.GameStateBuilder.round_or_starting.Reads.Learnt
round_or_starting κs a x y = only same

pub small_blind_or_half : OneResult promised.GameStateBuilder.small_blind_or_half.ended crate.GameStateBuilder.small_blind_or_half.Reads.Learnt
small_blind_or_half κs a x y = only same

pub built : OneResult promised.GameStateBuilder.built.ended crate.GameStateBuilder.built.Reads.Learnt
built κs a x y = only same
