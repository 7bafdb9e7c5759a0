-- R15.1, R15.5, R15.10: the places of src/places.rt, under the same names; each promise that speaks of one ties the two. Definitions only.
use Rattle.std.specs.Prelude.{ℕ}

-- ---- R15.13: the versions
abbrev pub VERSION : ℕ
VERSION = 20300

abbrev pub LAYOUT : ℕ
LAYOUT = 2

-- ---- the numbers
abbrev pub NUM_PLAYERS : ℕ
NUM_PLAYERS = 0

abbrev pub DEALER_IDX : ℕ
DEALER_IDX = 1

abbrev pub ROUND : ℕ
ROUND = 2

abbrev pub ROUND_BEFORE : ℕ
ROUND_BEFORE = 3

abbrev pub PLAYER_ACTIVE : ℕ
PLAYER_ACTIVE = 4

abbrev pub PLAYER_ALL_IN : ℕ
PLAYER_ALL_IN = 5

abbrev pub STARTING_PLAYER_ACTIVE : ℕ
STARTING_PLAYER_ACTIVE = 6

abbrev pub NEEDS_ACTION : ℕ
NEEDS_ACTION = 7

abbrev pub TO_ACT_IDX : ℕ
TO_ACT_IDX = 8

abbrev pub ROUND_LENGTH : ℕ
ROUND_LENGTH = 9

abbrev pub TOTAL_BET_COUNT : ℕ
TOTAL_BET_COUNT = 10

abbrev pub TOTAL_RAISE_COUNT : ℕ
TOTAL_RAISE_COUNT = 11

abbrev pub FORCED_BET_COUNT : ℕ
FORCED_BET_COUNT = 12

abbrev pub BB_POSTED : ℕ
BB_POSTED = 13

abbrev pub SB_POSTED : ℕ
SB_POSTED = 14

abbrev pub HAS_CAP : ℕ
HAS_CAP = 15

abbrev pub CAP : ℕ
CAP = 16

abbrev pub BOARD_LENGTH : ℕ
BOARD_LENGTH = 17

abbrev pub BOARD : ℕ
BOARD = 18

abbrev pub PASSED : ℕ
PASSED = 23

abbrev pub ADDED : ℕ
ADDED = 24

abbrev pub KEY_CODE : ℕ
KEY_CODE = 24

abbrev pub KEY_YEAR : ℕ
KEY_YEAR = 25

abbrev pub KEY_HAND : ℕ
KEY_HAND = 26

abbrev pub FREE : ℕ
FREE = 27

abbrev pub NUMBERS : ℕ
NUMBERS = 32

-- ---- the floats
abbrev pub TOTAL_POT : ℕ
TOTAL_POT = 0

abbrev pub BIG_BLIND : ℕ
BIG_BLIND = 1

abbrev pub SMALL_BLIND : ℕ
SMALL_BLIND = 2

abbrev pub ANTE : ℕ
ANTE = 3

abbrev pub ROUND_BET : ℕ
ROUND_BET = 4

abbrev pub MIN_RAISE : ℕ
MIN_RAISE = 5

abbrev pub PAID : ℕ
PAID = 6

abbrev pub STACKS : ℕ
STACKS = 8

abbrev pub STARTING_STACKS : ℕ
STARTING_STACKS = 24

abbrev pub HAND_BETS : ℕ
HAND_BETS = 40

abbrev pub WINNINGS : ℕ
WINNINGS = 56

abbrev pub ROUND_BETS : ℕ
ROUND_BETS = 72

abbrev pub FLOATS : ℕ
FLOATS = 88

-- ---- the answers of a run of bets
abbrev pub RUN_PAID : ℕ
RUN_PAID = 6

abbrev pub RUN_TAKEN : ℕ
RUN_TAKEN = 23

-- ---- what a build is told
abbrev pub GIVEN_STACKS : ℕ
GIVEN_STACKS = 0

abbrev pub GIVEN_BIG_BLIND : ℕ
GIVEN_BIG_BLIND = 1

abbrev pub GIVEN_SMALL_BLIND : ℕ
GIVEN_SMALL_BLIND = 2

abbrev pub GIVEN_ANTE : ℕ
GIVEN_ANTE = 3

abbrev pub GIVEN_DEALER : ℕ
GIVEN_DEALER = 4

abbrev pub GIVEN_DEALER_IS : ℕ
GIVEN_DEALER_IS = 5

abbrev pub GIVEN_CAP : ℕ
GIVEN_CAP = 6

abbrev pub GIVEN_CAP_CAPS : ℕ
GIVEN_CAP_CAPS = 7

abbrev pub GIVEN_CAP_IS : ℕ
GIVEN_CAP_IS = 8

abbrev pub GIVEN_ROUND : ℕ
GIVEN_ROUND = 9

abbrev pub GIVEN_ROUND_IS : ℕ
GIVEN_ROUND_IS = 10

abbrev pub GIVEN_BOARD : ℕ
GIVEN_BOARD = 11

abbrev pub GIVEN_HANDS : ℕ
GIVEN_HANDS = 12

abbrev pub GIVEN_HANDS_ARE : ℕ
GIVEN_HANDS_ARE = 13

abbrev pub GIVEN_PLAYER_BET : ℕ
GIVEN_PLAYER_BET = 14

abbrev pub GIVEN_ROUND_DATA : ℕ
GIVEN_ROUND_DATA = 15

abbrev pub GIVEN_KEY : ℕ
GIVEN_KEY = 16

abbrev pub GIVEN_KEY_CODE : ℕ
GIVEN_KEY_CODE = 17

abbrev pub GIVEN_KEY_YEAR : ℕ
GIVEN_KEY_YEAR = 18

abbrev pub GIVEN_KEY_HAND : ℕ
GIVEN_KEY_HAND = 19

abbrev pub GIVEN_FREE : ℕ
GIVEN_FREE = 20

abbrev pub GIVEN : ℕ
GIVEN = 24

abbrev pub AMOUNT_BIG_BLIND : ℕ
AMOUNT_BIG_BLIND = 0

abbrev pub AMOUNT_SMALL_BLIND : ℕ
AMOUNT_SMALL_BLIND = 1

abbrev pub AMOUNT_ANTE : ℕ
AMOUNT_ANTE = 2

abbrev pub AMOUNTS : ℕ
AMOUNTS = 3
