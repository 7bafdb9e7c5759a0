-- Section 10, good order, as a list of tests of the record; only places below n count. `is_whole` asks for 0 to 8,000, and by R10.3 that narrows nothing.
-- Definitions only.
use Rattle.std.specs.Prelude.{ℕ, ◌+◌, Bool, not, ◌||◌, List, [], ◌∷◌, ◌++◌, leb, eqb, get_or, take, Float}
use Rattle.std.specs.Float.{nan}
use Rattle.commons.specs.Tests.{all_of}
use Rattle.amounts.specs.Amounts.{largest_of}
use Rattle.seats.specs.Bits.{has, count_to}
use Rattle.commons.specs.Folds.{all_to}
use Rattle.chips.specs.Whole.{most, is_whole, chips_in, all_whole, sum_chips}
use Rattle.table.specs.declared.GameState.{GameState}
use Rattle.table.specs.Pay.{actor}
use Rattle.table.specs.Sound.{sound_of}

-- ---- R10.2: what the tests look at
-- the chips at seat i of a list
abbrev pub chips_at : List Float → ℕ → ℕ
chips_at l i = chips_in (get_or l i nan)

-- stacks and pot together
abbrev pub chips_of : GameState → ℕ
chips_of t = sum_chips t.stacks t.num_players + chips_in t.total_pot

-- R14.10: the winnings together
abbrev pub won_by : GameState → ℕ
won_by t = sum_chips t.player_winnings t.num_players

-- the seats that owe, and how many they are
abbrev pub owing : GameState → ℕ
owing t = t.round_data.needs_action.set

abbrev pub owing_in : GameState → ℕ
owing_in t = count_to t.num_players (owing t)

abbrev pub actor_owes : GameState → Bool
actor_owes t = has (owing t) (actor t)

-- ---- R10.2: the tests of one seat
abbrev pub covered : List Float → List Float → ℕ → Bool
covered round hand i = leb (chips_at round i) (chips_at hand i)

abbrev pub holding : ℕ → List Float → ℕ → Bool
holding active stacks i = not (has active i) || leb 1 (chips_at stacks i)

abbrev pub playing : ℕ → ℕ → ℕ → Bool
playing owing active i = not (has owing i) || has active i

-- ---- R10.2: the tests of the record
abbrev pub good_tests : GameState → List Bool
good_tests t =
    let n = t.num_players in
    let d = t.round_data in
    -- sound
    sound_of t
    -- whole: each stack, the pot, each hand bet, each round bet, B, m
    ∷ all_whole t.stacks n
    ∷ is_whole t.total_pot
    ∷ all_whole t.player_bet n
    ∷ all_whole d.player_bet n
    ∷ is_whole d.bet
    ∷ is_whole d.min_raise
    -- 8,000 chips or fewer in all
    ∷ leb (chips_of t) most
    -- the hand bets make the pot
    ∷ eqb (chips_in t.total_pot) (sum_chips t.player_bet n)
    -- a round bet is part of its hand bet
    ∷ all_to n (covered d.player_bet t.player_bet)
    -- B is the largest of the round bets
    ∷ eqb (chips_in d.bet) (chips_in (largest_of n d.player_bet))
    -- m is 1 to 8,000
    ∷ leb 1 (chips_in d.min_raise)
    ∷ leb (chips_in d.min_raise) most
    -- who is active has chips
    ∷ all_to n (holding t.player_active.set t.stacks)
    -- who owes is active
    ∷ all_to n (playing (owing t) t.player_active.set)
    -- the turn is with one who owes
    ∷ actor_owes t
    ∷ []

unfoldable pub in_good_order : GameState → Bool
in_good_order t = all_of (good_tests t)

-- R10.4: with the last of the 16 tests read as: if any seat owes, the seat to act does. So read it outlasts the last action
abbrev pub tests_with : GameState → Bool → List Bool
tests_with t last = take 15 (good_tests t) ++ (last ∷ [])

unfoldable pub in_order : GameState → Bool
in_order t = all_of (tests_with t (eqb (owing_in t) 0 || actor_owes t))
