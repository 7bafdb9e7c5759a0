-- Any pair of results that the `ensures` of a public function allows is equal, each by the one law `same`. The checker writes `ended`, the function's
-- signature, and `Learnt`, what a caller learns from its `ensures`. `.ci/functions --check` asks a line for each public function. Assumes nothing.
use Rattle.commons.proofs.OneResult.{OneResult, same, only}
use Rattle.table.proofs as crate
use Rattle.table.specs.contracts as promised

-- ---- src/lib.rt
pub none : OneResult promised.GameState.none.ended crate.GameState.none.Reads.Learnt
none κs a x y = only same

pub game-state-is-sound : OneResult promised.GameState.is_sound.ended crate.GameState.is_sound.Reads.Learnt
game-state-is-sound κs a x y = only same

pub do_bet : OneResult promised.GameState.do_bet.ended crate.GameState.do_bet.Reads.Learnt
do_bet κs a x y = only same

pub fold : OneResult promised.GameState.fold.ended crate.GameState.fold.Reads.Learnt
fold κs a x y = only same

pub choose : OneResult promised.GameState.choose.ended crate.GameState.choose.Reads.Learnt
choose κs a x y = only same

pub award : OneResult promised.GameState.award.ended crate.GameState.award.Reads.Learnt
award κs a x y = only same

pub player_reward : OneResult promised.GameState.player_reward.ended crate.GameState.player_reward.Reads.Learnt
player_reward κs a x y = only same

pub advance-round : OneResult promised.GameState.advance_round.ended crate.GameState.advance_round.Reads.Learnt
advance-round κs a x y = only same

pub complete : OneResult promised.GameState.complete.ended crate.GameState.complete.Reads.Learnt
complete κs a x y = only same

pub is-raise_capped : OneResult promised.GameState.is_raise_capped.ended crate.GameState.is_raise_capped.Reads.Learnt
is-raise_capped κs a x y = only same

pub num-active_players : OneResult promised.GameState.num_active_players.ended crate.GameState.num_active_players.Reads.Learnt
num-active_players κs a x y = only same

pub num-all_in_players : OneResult promised.GameState.num_all_in_players.ended crate.GameState.num_all_in_players.Reads.Learnt
num-all_in_players κs a x y = only same

pub is-complete : OneResult promised.GameState.is_complete.ended crate.GameState.is_complete.Reads.Learnt
is-complete κs a x y = only same

pub to_act_idx : OneResult promised.GameState.to_act_idx.ended crate.GameState.to_act_idx.Reads.Learnt
to_act_idx κs a x y = only same

pub current_player_stack : OneResult promised.GameState.current_player_stack.ended crate.GameState.current_player_stack.Reads.Learnt
current_player_stack κs a x y = only same

pub current_player_starting-stack : OneResult promised.GameState.current_player_starting_stack.ended crate.GameState.current_player_starting_stack.Reads.Learnt
current_player_starting-stack κs a x y = only same

pub current_round_current_player_bet : OneResult promised.GameState.current_round_current_player_bet.ended crate.GameState.current_round_current_player_bet.Reads.Learnt
current_round_current_player_bet κs a x y = only same

pub current_round-bet : OneResult promised.GameState.current_round_bet.ended crate.GameState.current_round_bet.Reads.Learnt
current_round-bet κs a x y = only same

pub current_round_player_bet : OneResult promised.GameState.current_round_player_bet.ended crate.GameState.current_round_player_bet.Reads.Learnt
current_round_player_bet κs a x y = only same

pub current_round-num-active_players : OneResult promised.GameState.current_round_num_active_players.ended crate.GameState.current_round_num_active_players.Reads.Learnt
current_round-num-active_players κs a x y = only same

pub current_round-min-raise : OneResult promised.GameState.current_round_min_raise.ended crate.GameState.current_round_min_raise.Reads.Learnt
current_round-min-raise κs a x y = only same

-- ---- src/added.rt
pub added-is-good : OneResult promised.added.Added.is_good.ended crate.added.Added.is_good.Reads.Learnt
added-is-good κs a x y = only same

-- ---- src/advancing.rt
pub advancing_first-turn : OneResult promised.advancing.first_turn.ended crate.advancing.first_turn.Reads.Learnt
advancing_first-turn κs a x y = only same

-- ---- src/betting.rt
pub betting-room_for : OneResult promised.betting.room_for.ended crate.betting.room_for.Reads.Learnt
betting-room_for κs a x y = only same

-- ---- src/soundness.rt
pub frame-is-sound : OneResult promised.soundness.Frame.is_sound.ended crate.soundness.Frame.is_sound.Reads.Learnt
frame-is-sound κs a x y = only same
