-- R3.2: round data made and changed. `data_of` alone lists the fields. Definitions only.
use Rattle.std.specs.Prelude.{ℕ, List, Float}
use Rattle.seats.specs.declared.PlayerBitSet.{PlayerBitSet}
use Rattle.rounds.specs.declared.RoundData.{RoundData}

abbrev pub data_of : PlayerBitSet → PlayerBitSet → Float → Float → List Float → ℕ → ℕ → ℕ → ℕ → ℕ → RoundData
data_of start owing m b bets len total raise force to = record {
  starting_player_active = start;
  needs_action = owing;
  min_raise = m;
  bet = b;
  player_bet = bets;
  player_bet_len = len;
  total_bet_count = total;
  total_raise_count = raise;
  forced_bet_count = force;
  to_act_idx = to;
}

-- with other amounts and counters
abbrev pub with_paid : RoundData → Float → Float → List Float → ℕ → ℕ → ℕ → RoundData
with_paid d m b bets total raise force =
    data_of d.starting_player_active d.needs_action m b bets d.player_bet_len total raise force d.to_act_idx

-- with other owing seats and another seat to act
abbrev pub with_turn : RoundData → ℕ → ℕ → RoundData
with_turn d owing to =
    data_of d.starting_player_active (record { set = owing }) d.min_raise d.bet d.player_bet d.player_bet_len d.total_bet_count d.total_raise_count d.forced_bet_count to
