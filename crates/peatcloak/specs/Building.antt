-- R15.10: the builder that a host's lists tell, and what a build into them comes to. Definitions only.
use Rattle.std.specs.Prelude.{ℕ, Option, None, Bool, cond, ◌&&◌, ◌||◌, not, List, [], ◌∷◌, leb, ltb, length, Float}
use Rattle.std.specs.Bool.{then_some}
use Rattle.std.specs.Result.{result_ok}
use Rattle.commons.specs.Tests.{all_of}
use Rattle.amounts.specs.Amounts.{of_slice}
use Rattle.rounds.specs.declared.RoundData.{RoundData}
use Rattle.builder.specs.declared.BuildStep.{BuildStep}
use Rattle.builder.specs.declared.GameStateBuilder.{GameStateBuilder}
use Rattle.builder.specs.Build.{build_of}
use Rattle.builder.specs.Cards.{cards_to}
use Rattle.builder.specs.Setters.{Amounts, Board, builder_of}
use Rattle.layout.specs.Outcome.{Outcome}
use Rattle.layout.specs.Places.{FLOATS, NUMBERS, GIVEN_STACKS, GIVEN_BIG_BLIND, GIVEN_SMALL_BLIND, GIVEN_ANTE, GIVEN_DEALER, GIVEN_DEALER_IS, GIVEN_CAP, GIVEN_CAP_CAPS, GIVEN_CAP_IS, GIVEN_ROUND, GIVEN_ROUND_IS, GIVEN_BOARD, GIVEN_HANDS, GIVEN_HANDS_ARE, GIVEN_PLAYER_BET, GIVEN_ROUND_DATA, GIVEN, AMOUNT_BIG_BLIND, AMOUNT_SMALL_BLIND, AMOUNT_ANTE, AMOUNTS}
use Rattle.layout.specs.Standing.{room_for, words_fit, data_read_of}
use Rattle.layout.specs.Words.{word_at, byte_at, flag_at, round_at, float_at}
use Rattle.peatcloak.specs.Calls.{judged, nothing_there}
use Rattle.peatcloak.specs.GivenAdded.{added_given, added_given_fits}

-- ---- what is given
abbrev pub amounts_given : Bool → List Float → Option Amounts
amounts_given given l = then_some given (record { list = of_slice l; len = length l })

abbrev pub board_given : Bool → List ℕ → Option Board
board_given given l = then_some given (record { list = cards_to (length l) l; len = length l })

abbrev pub data_given : Bool → List Float → List ℕ → Option RoundData
data_given given fs ns = cond given (result_ok (data_read_of fs ns)) None

-- fs and ns are the table's lists, gs is `given`
abbrev pub builder_at : List Float → List ℕ → List Float → List Float → List ℕ → List Float → List ℕ → GameStateBuilder
builder_at fs ns stacks bets board amounts gs =
    builder_of
    (amounts_given (flag_at gs GIVEN_STACKS) stacks)
    (then_some (flag_at gs GIVEN_BIG_BLIND) (float_at amounts AMOUNT_BIG_BLIND))
    (then_some (flag_at gs GIVEN_SMALL_BLIND) (float_at amounts AMOUNT_SMALL_BLIND))
    (then_some (flag_at gs GIVEN_ANTE) (float_at amounts AMOUNT_ANTE))
    (then_some (flag_at gs GIVEN_DEALER) (word_at gs GIVEN_DEALER_IS))
    (then_some (flag_at gs GIVEN_CAP) (record { capped = flag_at gs GIVEN_CAP_CAPS; value = byte_at gs GIVEN_CAP_IS }))
    (then_some (flag_at gs GIVEN_ROUND) (round_at gs GIVEN_ROUND_IS))
    (board_given (flag_at gs GIVEN_BOARD) board)
    (then_some (flag_at gs GIVEN_HANDS) (word_at gs GIVEN_HANDS_ARE))
    (amounts_given (flag_at gs GIVEN_PLAYER_BET) bets)
    (data_given (flag_at gs GIVEN_ROUND_DATA) fs ns)
    (added_given gs)

-- ---- whether the lists tell one
abbrev pub given_tests : List ℕ → List Bool
given_tests gs =
    ltb (word_at gs GIVEN_STACKS) 2
    ∷ ltb (word_at gs GIVEN_BIG_BLIND) 2
    ∷ ltb (word_at gs GIVEN_SMALL_BLIND) 2
    ∷ ltb (word_at gs GIVEN_ANTE) 2
    ∷ ltb (word_at gs GIVEN_DEALER) 2
    ∷ ltb (word_at gs GIVEN_CAP) 2
    ∷ ltb (word_at gs GIVEN_CAP_CAPS) 2
    ∷ ltb (word_at gs GIVEN_CAP_IS) 256
    ∷ ltb (word_at gs GIVEN_ROUND) 2
    ∷ ltb (word_at gs GIVEN_ROUND_IS) 12
    ∷ ltb (word_at gs GIVEN_BOARD) 2
    ∷ ltb (word_at gs GIVEN_HANDS) 2
    ∷ ltb (word_at gs GIVEN_PLAYER_BET) 2
    ∷ ltb (word_at gs GIVEN_ROUND_DATA) 2
    ∷ added_given_fits gs
    ∷ []

unfoldable pub given_fit : List ℕ → Bool
given_fit gs = all_of (given_tests gs)

abbrev pub room_tests : ℕ → ℕ → ℕ → ℕ → List Bool
room_tests floats numbers amounts given = leb FLOATS floats ∷ leb NUMBERS numbers ∷ leb AMOUNTS amounts ∷ leb GIVEN given ∷ []

unfoldable pub room_to_build : ℕ → ℕ → ℕ → ℕ → Bool
room_to_build floats numbers amounts given = all_of (room_tests floats numbers amounts given)

-- round data that is given must stand there
abbrev pub tells : ℕ → List ℕ → List ℕ → Bool
tells floats ns gs = given_fit gs && (not (flag_at gs GIVEN_ROUND_DATA) || (room_for floats (length ns) && words_fit ns))

-- ---- the build
abbrev pub built : BuildStep → Outcome
built s = judged s.answer s.table

abbrev pub build_on : List Float → List ℕ → List Float → List Float → List ℕ → List Float → List ℕ → Outcome
build_on fs ns stacks bets board amounts gs =
    cond (room_to_build (length fs) (length ns) (length amounts) (length gs) && tells (length fs) ns gs)
    (built (build_of (builder_at fs ns stacks bets board amounts gs)))
    (nothing_there fs ns)
