-- Section 5, the builder: the refusals in their order, and the record that is built. Definitions only.
use Rattle.std.specs.Prelude.{ℕ, min, Bool, true, false, not, ◌&&◌, ◌||◌, unwrap_or, is_none, Ok, Err, List, [], ◌∷◌, ◌++◌, eqb, leb, ltb, pos, get_or, Float}
use Rattle.std.specs.Option.{option_map_or}
use Rattle.std.specs.Float.{nan, fin, binary32}
use Rattle.std.specs.Float.Ieee.{div, lt, le, is_nan}
use Rattle.floats.specs.Helpers.{zerof}
use Rattle.amounts.specs.Amounts.{zeros, kept_to, sum_of, above_of, invalid, any_invalid}
use Rattle.refusals.specs.declared.Refusal.TheVariants.{Build, Added}
use Rattle.refusals.specs.declared.GameStateBuilderError.TheVariants.{MissingStacks, MissingBigBlind, InvalidPlayerCount, InvalidDealerIndex, InvalidBigBlind, InvalidSmallBlind, InvalidAnte, InvalidStack, InsufficientActivePlayers, HandsLengthMismatch, PlayerBetLengthMismatch, InvalidBoardSize}
use Rattle.refusals.specs.declared.AddedError.TheVariants.{BadRecord}
use Rattle.refusals.specs.declared.Refusal.{Refusal}
use Rattle.refusals.specs.Rows.{Row, row, judge, answer}
use Rattle.seats.specs.Bits.{up_to, seats_where}
use Rattle.seats.specs.Set.{of_bits}
use Rattle.rounds.specs.declared.Round.{Round}
use Rattle.rounds.specs.declared.Round.TheVariants.{Starting}
use Rattle.rounds.specs.declared.RoundData.{RoundData}
use Rattle.rounds.specs.Steps.{new_data}
use Rattle.rounds.specs.With.{with_paid}
use Rattle.table.specs.declared.GameState.{GameState}
use Rattle.table.specs.Rounds.{is_round}
use Rattle.table.specs.Sound.{sound_of}
use Rattle.table.specs.With.{table_of, no_table}
use Rattle.builder.specs.declared.GameStateBuilder.{GameStateBuilder}
use Rattle.builder.specs.declared.BuildStep.{BuildStep}
use Rattle.builder.specs.declared.Cap.{Cap}
use Rattle.builder.specs.Cards.{cards_to, card_rows, board_size}
use Rattle.builder.specs.Setters.{Amounts, Board, no_amounts, no_cards}

-- ---- what is given, or else the default
abbrev pub stacks_told : GameStateBuilder → Amounts
stacks_told b = unwrap_or b.stacks no_amounts

abbrev pub board_told : GameStateBuilder → Board
board_told b = unwrap_or b.board no_cards

abbrev pub big_blind_of : GameStateBuilder → Float
big_blind_of b = unwrap_or b.big_blind zerof

abbrev pub seats_of : GameStateBuilder → ℕ
seats_of b = (stacks_told b).len

abbrev pub stacks_of : GameStateBuilder → List Float
stacks_of b = kept_to (seats_of b) (stacks_told b).list

-- R5.4: the defaults; the small blind is half the big one
unfoldable pub small_blind_of : GameStateBuilder → Float
small_blind_of b = unwrap_or b.small_blind (div binary32 (big_blind_of b) (fin false 1 (pos 1)))

abbrev pub ante_of : GameStateBuilder → Float
ante_of b = unwrap_or b.ante zerof

abbrev pub dealer_of : GameStateBuilder → ℕ
dealer_of b = unwrap_or b.dealer_idx 0

abbrev pub cap_of : GameStateBuilder → Cap
cap_of b = unwrap_or b.max_raises_per_round (record { capped = true; value = 3 })

abbrev pub round_of : GameStateBuilder → Round
round_of b = unwrap_or b.round Starting

abbrev pub is_starting : GameStateBuilder → Bool
is_starting b = is_round (round_of b) 0

abbrev pub bets_of : GameStateBuilder → List Float
bets_of b = option_map_or (λ g. kept_to (seats_of b) g.list) b.player_bet zeros

abbrev pub board_len_of : GameStateBuilder → ℕ
board_len_of b = (board_told b).len

-- R5.8: round data that is given, its tail cleared; by default all n seats owe, active or not, and the turn is the dealer's
abbrev pub data_kept : ℕ → RoundData → RoundData
data_kept n d = with_paid d d.min_raise d.bet (kept_to n d.player_bet) d.total_bet_count d.total_raise_count d.forced_bet_count

unfoldable pub data_for : GameStateBuilder → ℕ → RoundData
data_for b dealer =
    option_map_or (data_kept (seats_of b)) b.round_data (new_data (seats_of b) (big_blind_of b) (of_bits (up_to (seats_of b))) dealer)

-- ---- R5.5: the seats: without chips one is active only by a bet that stands, and all in too; no bet stands in Starting
abbrev pub bet_stands : Bool → Float → Bool
bet_stands starting bet = lt zerof bet && not starting

abbrev pub all_in_at : Bool → Float → Float → Bool
all_in_at starting stack bet = le stack zerof && bet_stands starting bet

abbrev pub active_at : Bool → Float → Float → Bool
active_at starting stack bet = not (le stack zerof) || bet_stands starting bet

abbrev pub active_seats : Bool → ℕ → List Float → List Float → ℕ
active_seats starting n stacks bets = seats_where (min n 16) (λ i. active_at starting (get_or stacks i nan) (get_or bets i nan))

abbrev pub all_in_seats : Bool → ℕ → List Float → List Float → ℕ
all_in_seats starting n stacks bets = seats_where (min n 16) (λ i. all_in_at starting (get_or stacks i nan) (get_or bets i nan))

-- ---- R5.6, R5.7, R5.9: the record
unfoldable pub built_of : GameStateBuilder → GameState
built_of b =
    let n = seats_of b in
    let posted = not (is_starting b) in
    table_of n
    (active_seats (is_starting b) n (stacks_of b) (bets_of b))
    (all_in_seats (is_starting b) n (stacks_of b) (bets_of b))
    (sum_of (min n 16) (bets_of b))
    (stacks_of b) (stacks_of b) (bets_of b) zeros
    (big_blind_of b) (small_blind_of b) (ante_of b)
    (dealer_of b) (round_of b) (round_of b) (data_for b (dealer_of b))
    (cards_to (board_len_of b) (board_told b).list) (board_len_of b)
    posted posted
    (cap_of b).capped (cap_of b).value b.added

-- ---- R5.3: the order of the refusals
-- 1, 2, 3
abbrev pub told_rows : GameStateBuilder → List Row
told_rows b =
    row (is_none b.stacks) (Build MissingStacks)
    ∷ row (is_none b.big_blind) (Build MissingBigBlind)
    ∷ row (not (leb 2 (seats_of b) && leb (seats_of b) 16)) (Build InvalidPlayerCount)
    ∷ []

-- 5, 6, 7, 8, 9
abbrev pub amount_rows : GameStateBuilder → List Row
amount_rows b =
    let n = min (seats_of b) 16 in
    row (le (big_blind_of b) zerof || is_nan (big_blind_of b)) (Build InvalidBigBlind)
    ∷ row (invalid (small_blind_of b)) (Build InvalidSmallBlind)
    ∷ row (invalid (ante_of b)) (Build InvalidAnte)
    ∷ row (any_invalid n (stacks_told b).list) (Build InvalidStack)
    ∷ row (is_starting b && ltb (above_of n (stacks_told b).list) 2) (Build InsufficientActivePlayers)
    ∷ []

-- 4, 10, 11, 12
abbrev pub list_rows : GameStateBuilder → List Row
list_rows b =
    row (leb (seats_of b) (dealer_of b)) (Build InvalidDealerIndex)
    ∷ row (option_map_or (λ len. not (eqb len (seats_of b))) b.hands false) (Build HandsLengthMismatch)
    ∷ row (option_map_or (λ bets. not (eqb bets.len (seats_of b))) b.player_bet false) (Build PlayerBetLengthMismatch)
    ∷ row (not (board_size (board_len_of b))) (Build InvalidBoardSize)
    ∷ []

-- R5.3: then the cards, and 19 unless the record that would be built is sound
abbrev pub rows_for : GameStateBuilder → Bool → List Row
rows_for b sound = told_rows b ++ (amount_rows b ++ (list_rows b ++ (card_rows (min (board_len_of b) 5) 0 (board_told b).list ++ row (not sound) (Added BadRecord) ∷ [])))

abbrev pub build_rows : GameStateBuilder → List Row
build_rows b = rows_for b (sound_of (built_of b))

-- ---- R5.10: the build
abbrev pub built_step : GameStateBuilder → BuildStep
built_step b = record { answer = Ok tt; table = built_of b }

abbrev pub not_built : Refusal → BuildStep
not_built r = record { answer = Err r; table = no_table }

unfoldable pub build_of : GameStateBuilder → BuildStep
build_of b = answer (built_step b) not_built (judge (build_rows b))
