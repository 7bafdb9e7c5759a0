-- Any pair of results that the `ensures` of a public function allows is equal, each by the one law `same`. The checker writes `ended`, the function's
-- signature, and `Learnt`, what a caller learns from its `ensures`. `.ci/functions --check` asks a line for each public function. Assumes nothing.
use Rattle.commons.proofs.OneResult.{OneResult, same, only}
use Rattle.rounds.proofs as crate
use Rattle.rounds.specs.contracts as promised

-- ---- src/lib.rt
pub advance : OneResult promised.Round.advance.ended crate.Round.advance.Reads.Learnt
advance κs a x y = only same

pub number : OneResult promised.Round.number.ended crate.Round.number.Reads.Learnt
number κs a x y = only same

pub is-sound : OneResult promised.is_sound.ended crate.is_sound.Reads.Learnt
is-sound κs a x y = only same

pub none : OneResult promised.RoundData.none.ended crate.RoundData.none.Reads.Learnt
none κs a x y = only same

pub new : OneResult promised.RoundData.new.ended crate.RoundData.new.Reads.Learnt
new κs a x y = only same

pub new-with-bets : OneResult promised.RoundData.new_with_bets.ended crate.RoundData.new_with_bets.Reads.Learnt
new-with-bets κs a x y = only same

pub advance_action : OneResult promised.RoundData.advance_action.ended crate.RoundData.advance_action.Reads.Learnt
advance_action κs a x y = only same

pub do_bet : OneResult promised.RoundData.do_bet.ended crate.RoundData.do_bet.Reads.Learnt
do_bet κs a x y = only same

pub num_players_need_action : OneResult promised.RoundData.num_players_need_action.ended crate.RoundData.num_players_need_action.Reads.Learnt
num_players_need_action κs a x y = only same

pub is_action_unopened : OneResult promised.RoundData.is_action_unopened.ended crate.RoundData.is_action_unopened.Reads.Learnt
is_action_unopened κs a x y = only same

pub current_player_bet : OneResult promised.RoundData.current_player_bet.ended crate.RoundData.current_player_bet.Reads.Learnt
current_player_bet κs a x y = only same

-- ---- src/paying.rt
pub is-raise : OneResult promised.paying.is_raise.ended crate.paying.is_raise.Reads.Learnt
is-raise κs a x y = only same

pub up_if_lem : OneResult promised.paying.up_if.ended crate.paying.up_if.Reads.Learnt
up_if_lem κs a x y = only same

pub stake_is-full : OneResult promised.paying.Stake.is_full.ended crate.paying.Stake.is_full.Reads.Learnt
stake_is-full κs a x y = only same

pub stake_put_in : OneResult promised.paying.Stake.put_in.ended crate.paying.Stake.put_in.Reads.Learnt
stake_put_in κs a x y = only same

pub payer_pay : OneResult promised.paying.Payer.pay.ended crate.paying.Payer.pay.Reads.Learnt
payer_pay κs a x y = only same

-- ---- src/walking.rt
pub walk : OneResult promised.walking.walk.ended crate.walking.walk.Reads.Learnt
walk κs a x y = only same
