-- R5.1, R5.2: what a builder is told, each thing `Some` once it is told. `builder_of` alone lists the fields. Definitions only.
use Rattle.std.specs.Prelude.{ℕ, Bool, Option, Some, None, List, length, replicate, Float}
use Rattle.amounts.specs.Amounts.{zeros, of_slice, kept_to}
use Rattle.rounds.specs.declared.Round.{Round}
use Rattle.rounds.specs.declared.RoundData.{RoundData}
use Rattle.keys.specs.declared.HandKey.{HandKey}
use Rattle.table.specs.declared.added.Added.{Added}
use Rattle.table.specs.Added.{added_of, no_added}
use Rattle.builder.specs.declared.Listed.{Listed}
use Rattle.builder.specs.declared.Cap.{Cap}
use Rattle.builder.specs.declared.GameStateBuilder.{GameStateBuilder}
use Rattle.builder.specs.Cards.{cards_to}

-- a list of amounts and a board, each with its true length
abbrev pub Amounts : Type 0
Amounts = Listed (List Float)

abbrev pub Board : Type 0
Board = Listed (List ℕ)

abbrev pub builder_of : Option Amounts → Option Float → Option Float → Option Float → Option ℕ → Option Cap → Option Round → Option Board → Option ℕ → Option Amounts → Option RoundData → Added → GameStateBuilder
builder_of stacks big small ante dealer cap now board hands bets d added = record {
  stacks = stacks;
  big_blind = big;
  small_blind = small;
  ante = ante;
  dealer_idx = dealer;
  max_raises_per_round = cap;
  round = now;
  board = board;
  hands = hands;
  player_bet = bets;
  round_data = d;
  added = added;
}

-- ---- R5.1, R5.2: a list that is given, with its true length
abbrev pub the_amounts : List Float → Option Amounts
the_amounts s = Some (record { list = of_slice s; len = length s })

-- R5.2: n stacks alike
abbrev pub same_amounts : ℕ → Float → Option Amounts
same_amounts n x = Some (record { list = kept_to n (replicate 16 x); len = n })

-- ---- R5.1: nothing is given; and what is read of a list that is not
abbrev pub nothing : GameStateBuilder
nothing = builder_of None None None None None None None None None None None no_added

abbrev pub no_amounts : Amounts
no_amounts = record { list = zeros; len = 0 }

abbrev pub no_cards : Board
no_cards = record { list = replicate 5 0; len = 0 }

-- ---- R5.1, R5.2: the setters
module _ (b : GameStateBuilder) where
  abbrev pub with_stacks : Option Amounts → GameStateBuilder
  with_stacks g = builder_of g b.big_blind b.small_blind b.ante b.dealer_idx b.max_raises_per_round b.round b.board b.hands b.player_bet b.round_data b.added

  abbrev pub with_big_blind : Option Float → GameStateBuilder
  with_big_blind g = builder_of b.stacks g b.small_blind b.ante b.dealer_idx b.max_raises_per_round b.round b.board b.hands b.player_bet b.round_data b.added

  abbrev pub with_small_blind : Option Float → GameStateBuilder
  with_small_blind g = builder_of b.stacks b.big_blind g b.ante b.dealer_idx b.max_raises_per_round b.round b.board b.hands b.player_bet b.round_data b.added

  abbrev pub with_ante : Option Float → GameStateBuilder
  with_ante g = builder_of b.stacks b.big_blind b.small_blind g b.dealer_idx b.max_raises_per_round b.round b.board b.hands b.player_bet b.round_data b.added

  abbrev pub with_dealer : Option ℕ → GameStateBuilder
  with_dealer g = builder_of b.stacks b.big_blind b.small_blind b.ante g b.max_raises_per_round b.round b.board b.hands b.player_bet b.round_data b.added

  abbrev pub with_cap : Bool → ℕ → GameStateBuilder
  with_cap capped max = builder_of b.stacks b.big_blind b.small_blind b.ante b.dealer_idx (Some (record { capped = capped; value = max })) b.round b.board b.hands b.player_bet b.round_data b.added

  abbrev pub with_round : Round → GameStateBuilder
  with_round r = builder_of b.stacks b.big_blind b.small_blind b.ante b.dealer_idx b.max_raises_per_round (Some r) b.board b.hands b.player_bet b.round_data b.added

  abbrev pub with_board : List ℕ → GameStateBuilder
  with_board s = builder_of b.stacks b.big_blind b.small_blind b.ante b.dealer_idx b.max_raises_per_round b.round (Some (record { list = cards_to (length s) s; len = length s })) b.hands b.player_bet b.round_data b.added

  abbrev pub with_hands : Option ℕ → GameStateBuilder
  with_hands g = builder_of b.stacks b.big_blind b.small_blind b.ante b.dealer_idx b.max_raises_per_round b.round b.board g b.player_bet b.round_data b.added

  abbrev pub with_bets : Option Amounts → GameStateBuilder
  with_bets g = builder_of b.stacks b.big_blind b.small_blind b.ante b.dealer_idx b.max_raises_per_round b.round b.board b.hands g b.round_data b.added

  abbrev pub with_data : RoundData → GameStateBuilder
  with_data d = builder_of b.stacks b.big_blind b.small_blind b.ante b.dealer_idx b.max_raises_per_round b.round b.board b.hands b.player_bet (Some d) b.added

  abbrev pub with_key : HandKey → GameStateBuilder
  with_key k = builder_of b.stacks b.big_blind b.small_blind b.ante b.dealer_idx b.max_raises_per_round b.round b.board b.hands b.player_bet b.round_data (added_of k)
