-- The worked hands of documents 01 and 02, and records with one fault or with two that stand next to each other in the order 19, 24, 23, 22: one table that
-- is computed. Assumes nothing.
use Rattle.std.proofs.Common.{◌≡◌, ℕ, ◌-◌, true, false, List, [], ◌∷◌, ◌++◌, map, length, replicate, ℤ, pos, negsuc, refl}
use lib.Ieee.{Float, nan, fin, binary32, of_int, add, eq, ne, le, lt}
use Rattle.floats.specs.Helpers.{zerof}
use Rattle.seats.specs.Bits.{has, with, count_to, seats_where}
use Rattle.seats.specs.Set.{of_bits}
use Rattle.commons.specs.Filled.{filled}
use Rattle.rounds.specs.declared.Round.TheVariants.{River}
use Rattle.rounds.specs.Steps.{new_data}
use Rattle.table.specs.declared.GameState.{GameState}
use Rattle.table.specs.Added.{no_added, good_added}
use Rattle.table.specs.Sound.{sound_frame, board_ok, cards_ok}
use Rattle.table.specs.With.{table_of}
use Rattle.commons.specs.Folds.{sum_to, all_to, most_to, any_to}
use Rattle.chips.specs.Whole.{is_whole, chips_in, all_whole, sum_chips}
use Rattle.layers.specs.Sharing.{ahead, share_of}
use Rattle.layers.specs.Settlement.{contends, is_level, top, level_below, is_layer, pot_of, put_in, holds, reached, best, wins, share, award, is_payable, awards_of}
use Rattle.settlement.specs.declared.Settled.{Settled}
use Rattle.settlement.specs.Hand.{counted_of, after_dealer}
use Rattle.settlement.specs.Settlement.{any_won, in_chips, raised, raised_all, rewards_of, settled_of}
use Rattle.refusals.specs.Rows.{verdict_number}

chips : ℕ → Float
chips k = of_int binary32 (pos k)

half : Float
half = fin false 1 (negsuc 0)

minus_zero : Float
minus_zero = fin true 0 (pos 0)

-- all 16 places
padded : {A : Type 0} → A → List A → List A
padded x l = l ++ replicate (16 - length l) x

-- a record: the dealer, active and all-in seats as numbers (seat i is the digit i), the pot, stacks, hand bets, winnings; each seat began with its
-- bet
dealt : ℕ → ℕ → ℕ → ℕ → List Float → List ℕ → List Float → GameState
dealt dealer active all_in pot stacks bets winnings =
    let n = length bets in
    let put = padded zerof (map chips bets) in
    table_of n active all_in (chips pot) (padded zerof stacks) put put (padded zerof winnings) (chips 10) (chips 5) zerof dealer River River
    (new_data n (chips 10) (of_bits 0) 0) (replicate 5 0) 0 true true true 3 no_added

-- seat 0 deals
seated : ℕ → ℕ → ℕ → List Float → List ℕ → List Float → GameState
seated = dealt 0

-- what is looked at
record Seen : Type 0 where
  number : ℕ
  stacks : List Float
  winnings : List Float
  rewards : List ℤ

record Case : Type 0 where
  table : GameState
  ranks : List ℕ
  gives : Seen

seen : Settled → Seen
seen s = record { number = verdict_number s.answer; stacks = s.table.stacks; winnings = s.table.player_winnings; rewards = s.rewards }

-- a hand paid from stacks and winnings of 0: the dealer, the bets, the ranks, the awards, the rewards
paid : ℕ → ℕ → ℕ → ℕ → List ℕ → List ℕ → List ℕ → List ℤ → Case
paid dealer active all_in pot bets ranks awards rewards =
    let won = padded zerof (map chips awards) in
    record { table = dealt dealer active all_in pot [] bets []; ranks = ranks; gives = record { number = 0; stacks = won; winnings = won; rewards = padded (pos 0) rewards } }

-- a record refused, with equal ranks
refused : ℕ → GameState → Case
refused number t = record { table = t; ranks = replicate 16 1; gives = record { number = number; stacks = t.stacks; winnings = t.player_winnings; rewards = padded (pos 0) [] } }

-- a list for 16 seats: a, b and c for seats 0, 7 and 15, `three` for seat 3, and `other` for the rest
all_but : {A : Type 0} → A → A → A → A → A → List A
all_but a b c three other = a ∷ other ∷ other ∷ three ∷ other ∷ other ∷ other ∷ b ∷ replicate 7 other ++ c ∷ []

-- a chip of each seat, and two of seat 3
ones : List ℕ
ones = all_but 1 1 1 2 1

wins-three : List ℕ
wins-three = all_but 9 9 9 9 4

shares : ℕ → ℕ → ℕ → List ℕ
shares a b c = all_but a b c 0 0

nets : ℤ → ℤ → ℤ → List ℤ
nets a b c = all_but a b c (negsuc 1) (negsuc 0)

cases : List Case
cases =
    -- the best rank reached the lower level alone
    paid 0 6 1 70 (10 ∷ 30 ∷ 30 ∷ []) (9 ∷ 5 ∷ 5 ∷ []) (30 ∷ 20 ∷ 20 ∷ []) (pos 20 ∷ negsuc 9 ∷ negsuc 9 ∷ [])
    -- an odd chip, and a seat that folded: each seat as the dealer
    ∷ paid 0 6 0 15 (5 ∷ 5 ∷ 5 ∷ []) (1 ∷ 1 ∷ 1 ∷ []) (0 ∷ 8 ∷ 7 ∷ []) (negsuc 4 ∷ pos 3 ∷ pos 2 ∷ [])
    ∷ paid 1 6 0 15 (5 ∷ 5 ∷ 5 ∷ []) (1 ∷ 1 ∷ 1 ∷ []) (0 ∷ 7 ∷ 8 ∷ []) (negsuc 4 ∷ pos 2 ∷ pos 3 ∷ [])
    ∷ paid 2 6 0 15 (5 ∷ 5 ∷ 5 ∷ []) (1 ∷ 1 ∷ 1 ∷ []) (0 ∷ 8 ∷ 7 ∷ []) (negsuc 4 ∷ pos 3 ∷ pos 2 ∷ [])
    -- two layers with odd chips, two below and one above: in each they go from the seat after the dealer
    ∷ paid 0 14 0 27 (6 ∷ 5 ∷ 8 ∷ 8 ∷ []) (1 ∷ 1 ∷ 1 ∷ 1 ∷ []) (0 ∷ 7 ∷ 11 ∷ 9 ∷ []) (negsuc 5 ∷ pos 2 ∷ pos 3 ∷ pos 1 ∷ [])
    ∷ paid 1 14 0 27 (6 ∷ 5 ∷ 8 ∷ 8 ∷ []) (1 ∷ 1 ∷ 1 ∷ 1 ∷ []) (0 ∷ 6 ∷ 11 ∷ 10 ∷ []) (negsuc 5 ∷ pos 1 ∷ pos 3 ∷ pos 2 ∷ [])
    ∷ paid 2 14 0 27 (6 ∷ 5 ∷ 8 ∷ 8 ∷ []) (1 ∷ 1 ∷ 1 ∷ 1 ∷ []) (0 ∷ 7 ∷ 9 ∷ 11 ∷ []) (negsuc 5 ∷ pos 2 ∷ pos 1 ∷ pos 3 ∷ [])
    -- 16 seats, of which seats 0, 7 and 15 win 17 chips, two of them odd: the dealer last, and the last but one
    ∷ paid 15 65527 0 17 ones wins-three (shares 6 6 5) (nets (pos 5) (pos 5) (pos 4))
    ∷ paid 14 65527 0 17 ones wins-three (shares 6 5 6) (nets (pos 5) (pos 4) (pos 5))
    -- a contender with no bet beside levels
    ∷ paid 0 7 0 16 (0 ∷ 8 ∷ 8 ∷ []) (9 ∷ 1 ∷ 1 ∷ []) (0 ∷ 8 ∷ 8 ∷ []) (pos 0 ∷ pos 0 ∷ pos 0 ∷ [])
    -- nothing to pay
    ∷ paid 0 3 0 0 (0 ∷ 0 ∷ []) (1 ∷ 2 ∷ []) (0 ∷ 0 ∷ []) (pos 0 ∷ pos 0 ∷ [])
    -- 19, and before 24
    ∷ refused 19 (seated 8 0 15 [] (5 ∷ 5 ∷ 5 ∷ []) [])
    ∷ refused 19 (seated 8 0 15 [] (5 ∷ 5 ∷ 5 ∷ []) (chips 1 ∷ []))
    -- 24, a NaN too, and before 23
    ∷ refused 24 (seated 7 0 15 [] (5 ∷ 5 ∷ 5 ∷ []) (chips 1 ∷ []))
    ∷ refused 24 (seated 7 0 15 [] (5 ∷ 5 ∷ 5 ∷ []) (nan ∷ []))
    ∷ refused 24 (seated 7 0 14 [] (5 ∷ 5 ∷ 5 ∷ []) (chips 1 ∷ []))
    -- 23: the pot, a stack, a chip too many; and before 22
    ∷ refused 23 (seated 7 0 14 [] (5 ∷ 5 ∷ 5 ∷ []) [])
    ∷ refused 23 (seated 7 0 15 (half ∷ []) (5 ∷ 5 ∷ 5 ∷ []) [])
    ∷ refused 23 (seated 7 0 15 (chips 7986 ∷ []) (5 ∷ 5 ∷ 5 ∷ []) [])
    ∷ refused 23 (seated 0 0 14 [] (5 ∷ 5 ∷ 5 ∷ []) [])
    -- 22
    ∷ refused 22 (seated 0 0 15 [] (5 ∷ 5 ∷ 5 ∷ []) [])
    -- 8,000 chips in all; and -0.0 is 0 in stack and winnings, and stays where nothing is awarded
    ∷ record {
      table = seated 1 0 15 (chips 7985 ∷ minus_zero ∷ []) (5 ∷ 5 ∷ 5 ∷ []) (minus_zero ∷ minus_zero ∷ []);
      ranks = replicate 16 1;
      gives = record {
        number = 0;
        stacks = padded zerof (chips 8000 ∷ minus_zero ∷ []);
        winnings = padded zerof (chips 15 ∷ minus_zero ∷ []);
        rewards = padded (pos 0) (pos 7995 ∷ negsuc 4 ∷ negsuc 4 ∷ []);
      };
    }
    ∷ []

right : map (λ c. seen (settled_of c.table c.ranks)) cases ≡ map (λ c. c.gives) cases
unfolding cases paid refused seated dealt all_but ones wins-three shares nets seen padded chips half minus_zero settled_of any_won in_chips raised raised_all rewards_of counted_of after_dealer sound_frame board_ok cards_ok good_added is_whole chips_in all_whole sum_chips sum_to all_to most_to any_to filled has with count_to seats_where ahead share_of contends is_level top level_below is_layer pot_of put_in holds reached best wins share award is_payable awards_of of_int add eq ne le lt
right = refl
