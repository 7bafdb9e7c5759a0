-- R15.16: what the types of a record's fields say of it: lists of their lengths, numbers within their bits. Definitions only.
use Rattle.std.specs.Prelude.{◌<◌, ◌≡◌, get_or, length}
use Rattle.table.specs.declared.GameState.{GameState}
use Rattle.layout.specs.Added.{AddedFit}

pub record ListsFit (t : GameState) : Type 0 where
  pub stacks : length t.stacks ≡ 16
  pub starting : length t.starting_stacks ≡ 16
  pub bets : length t.player_bet ≡ 16
  pub won : length t.player_winnings ≡ 16
  pub round-bets : length t.round_data.player_bet ≡ 16

pub record NumbersFit (t : GameState) : Type 0 where
  pub active : t.player_active.set < 65536
  pub all_in : t.player_all_in.set < 65536
  pub start : t.round_data.starting_player_active.set < 65536
  pub owing : t.round_data.needs_action.set < 65536
  pub total : t.round_data.total_bet_count < 256
  pub raise : t.round_data.total_raise_count < 256
  pub force : t.round_data.forced_bet_count < 256
  pub cap : t.max_raises_per_round < 256
  pub cards : length t.board ≡ 5
  pub card0 : get_or t.board 0 0 < 256
  pub card1 : get_or t.board 1 0 < 256
  pub card2 : get_or t.board 2 0 < 256
  pub card3 : get_or t.board 3 0 < 256
  pub card4 : get_or t.board 4 0 < 256

pub record Fits (t : GameState) : Type 0 where
  pub lists : ListsFit t
  pub numbers : NumbersFit t
  pub added : AddedFit t.added
