-- R16.1: the record made, and with some fields changed. `table_of` alone lists the fields; `changed` has those that some step moves. Definitions only.
use Rattle.std.specs.Prelude.{ℕ, Bool, false, List, replicate, Float}
use Rattle.floats.specs.Helpers.{zerof}
use Rattle.amounts.specs.Amounts.{zeros}
use Rattle.seats.specs.Set.{of_bits}
use Rattle.rounds.specs.declared.Round.{Round}
use Rattle.rounds.specs.declared.Round.TheVariants.{Starting}
use Rattle.rounds.specs.declared.RoundData.{RoundData}
use Rattle.rounds.specs.Steps.{no_data}
use Rattle.table.specs.declared.GameState.{GameState}
use Rattle.table.specs.declared.added.Added.{Added}
use Rattle.table.specs.Added.{no_added}

abbrev pub table_of : ℕ → ℕ → ℕ → Float → List Float → List Float → List Float → List Float → Float → Float → Float → ℕ → Round → Round → RoundData → List ℕ → ℕ → Bool → Bool → Bool → ℕ → Added → GameState
table_of n active all_in pot stacks starting bets winnings big small ante dealer now before d board len bb sb capped cap added = record {
  num_players = n;
  player_active = of_bits active;
  player_all_in = of_bits all_in;
  total_pot = pot;
  stacks = stacks;
  starting_stacks = starting;
  player_bet = bets;
  player_winnings = winnings;
  big_blind = big;
  small_blind = small;
  ante = ante;
  dealer_idx = dealer;
  round = now;
  round_before = before;
  round_data = d;
  board = board;
  board_len = len;
  bb_posted = bb;
  sb_posted = sb;
  has_max_raises = capped;
  max_raises_per_round = cap;
  added = added;
}

-- R5.10, R13.4: a refused build gives zeros
abbrev pub no_table : GameState
no_table = table_of 0 0 0 zerof zeros zeros zeros zeros zerof zerof zerof 0 Starting Starting no_data (replicate 5 0) 0 false false false 0 no_added

-- with the fields changed that some step moves
abbrev pub changed : GameState → ℕ → ℕ → Float → List Float → List Float → List Float → Round → Round → RoundData → GameState
changed t active all_in pot stacks bets winnings now before d =
    table_of t.num_players active all_in pot stacks t.starting_stacks bets winnings t.big_blind t.small_blind t.ante t.dealer_idx now before d
    t.board t.board_len t.bb_posted t.sb_posted t.has_max_raises t.max_raises_per_round t.added

-- R7.10: what a payment moves
abbrev pub with_payment : GameState → ℕ → ℕ → Float → List Float → List Float → RoundData → GameState
with_payment t active all_in pot stacks bets d = changed t active all_in pot stacks bets t.player_winnings t.round t.round_before d

-- R8.2: what a fold moves
abbrev pub with_fold : GameState → ℕ → RoundData → GameState
with_fold t active d = with_payment t active t.player_all_in.set t.total_pot t.stacks t.player_bet d

-- R9.1: what an award moves, and a settlement
abbrev pub with_award : GameState → List Float → List Float → GameState
with_award t stacks winnings =
    changed t t.player_active.set t.player_all_in.set t.total_pot stacks t.player_bet winnings t.round t.round_before t.round_data

-- R3.10: what a new round moves
abbrev pub with_round : GameState → Round → Round → RoundData → GameState
with_round t now before d =
    changed t t.player_active.set t.player_all_in.set t.total_pot t.stacks t.player_bet t.player_winnings now before d
