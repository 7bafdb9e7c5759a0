-- R11.1, R11.7: the hand of a record in whole chips, as its layers are made. Definitions only.
use Rattle.std.specs.Prelude.{ℕ, cond, List, nat_lt, slice_index_or, Float}
use Rattle.std.specs.Float.{nan}
use Rattle.commons.specs.Filled.{filled}
use Rattle.rounds.specs.Walk.{seat_on}
use Rattle.table.specs.declared.GameState.{GameState}
use Rattle.chips.specs.Whole.{chips_in}
use Rattle.layers.specs.declared.Hand.{Hand}
use Rattle.layers.specs.Settlement.{nothing}

abbrev pub chips_at : List Float → ℕ → ℕ
chips_at l i = chips_in (slice_index_or l i nan)

unfoldable pub counted_of : List Float → List ℕ
counted_of l = filled 16 nothing (chips_at l)

-- R11.9: odd chips are given out in order from the first seat after the dealer; seat 0 where the dealer has no seat, which is 19
unfoldable pub after_dealer : ℕ → ℕ → ℕ
after_dealer n dealer = cond (nat_lt dealer n) (seat_on n dealer 1) 0

abbrev pub first_of : GameState → ℕ
first_of t = after_dealer t.num_players t.dealer_idx

abbrev pub hand_of : GameState → List ℕ → Hand
hand_of t ranks = record {
  n = t.num_players;
  active = t.player_active.set;
  all_in = t.player_all_in.set;
  first = first_of t;
  bets = counted_of t.player_bet;
  ranks = ranks;
}
