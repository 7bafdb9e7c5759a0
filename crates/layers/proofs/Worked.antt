-- The worked hands of documents 01 and 02, and some at the edges of their sentences, as one table that is computed. Assumes nothing.
use Prim.Native.Nat.{ℕ, ◌-◌}
use mathlib.Core.Path.{◌≡◌, refl}
use mathlib.Core.List.{List, [], ◌∷◌, ◌++◌, map}
use lib.ListN.{length, replicate}
use Rattle.seats.specs.Bits.{has, with, count_to, seats_where}
use Rattle.commons.specs.Filled.{filled}
use Rattle.commons.specs.Folds.{sum_to, most_to, any_to}
use Rattle.layers.specs.declared.Hand.{Hand}
use Rattle.layers.specs.Sharing.{ahead, share_of}
use Rattle.layers.specs.Settlement.{contends, is_level, top, level_below, is_layer, pot_of, put_in, holds, reached, best, wins, share, award, is_payable, awards_of}

-- a hand, and what its seats are awarded
record Case : Type 0 where
  hand : Hand
  gives : List ℕ

-- active and all-in seats as numbers (seat i is the digit i), the seat `first`, the bets, the ranks, the awards
case : ℕ → ℕ → ℕ → List ℕ → List ℕ → List ℕ → Case
case active all_in first bets ranks gives =
    record { hand = record { n = length bets; active = active; all_in = all_in; first = first; bets = bets; ranks = ranks }; gives = gives }

table : List Case
table =
    -- the best rank reached the lower level alone
    case 6 1 0 (10 ∷ 30 ∷ 30 ∷ []) (9 ∷ 5 ∷ 5 ∷ []) (30 ∷ 20 ∷ 20 ∷ [])
    -- an odd chip, and a seat that folded
    ∷ case 6 0 0 (5 ∷ 5 ∷ 5 ∷ []) (4 ∷ 4 ∷ 4 ∷ []) (0 ∷ 8 ∷ 7 ∷ [])
    -- the odd chip from another seat on
    ∷ case 6 0 1 (5 ∷ 5 ∷ 5 ∷ []) (4 ∷ 4 ∷ 4 ∷ []) (0 ∷ 8 ∷ 7 ∷ [])
    ∷ case 6 0 2 (5 ∷ 5 ∷ 5 ∷ []) (4 ∷ 4 ∷ 4 ∷ []) (0 ∷ 7 ∷ 8 ∷ [])
    -- odd chips are per layer, in each from the seat `first` on
    ∷ case 14 0 0 (6 ∷ 5 ∷ 8 ∷ 8 ∷ []) (3 ∷ 3 ∷ 3 ∷ 3 ∷ []) (0 ∷ 7 ∷ 11 ∷ 9 ∷ [])
    ∷ case 14 0 1 (6 ∷ 5 ∷ 8 ∷ 8 ∷ []) (3 ∷ 3 ∷ 3 ∷ 3 ∷ []) (0 ∷ 7 ∷ 11 ∷ 9 ∷ [])
    ∷ case 14 0 2 (6 ∷ 5 ∷ 8 ∷ 8 ∷ []) (3 ∷ 3 ∷ 3 ∷ 3 ∷ []) (0 ∷ 6 ∷ 11 ∷ 10 ∷ [])
    ∷ case 14 0 3 (6 ∷ 5 ∷ 8 ∷ 8 ∷ []) (3 ∷ 3 ∷ 3 ∷ 3 ∷ []) (0 ∷ 7 ∷ 9 ∷ 11 ∷ [])
    -- a contender with no bet beside levels
    ∷ case 7 0 0 (0 ∷ 8 ∷ 8 ∷ []) (9 ∷ 1 ∷ 1 ∷ []) (0 ∷ 8 ∷ 8 ∷ [])
    -- a folded seat put in more than any level
    ∷ case 6 0 0 (9 ∷ 4 ∷ 4 ∷ []) (7 ∷ 1 ∷ 2 ∷ []) (0 ∷ 0 ∷ 17 ∷ [])
    -- no level
    ∷ case 6 0 0 (7 ∷ 0 ∷ 0 ∷ []) (9 ∷ 2 ∷ 2 ∷ []) (0 ∷ 4 ∷ 3 ∷ [])
    ∷ case 6 0 1 (7 ∷ 0 ∷ 0 ∷ []) (9 ∷ 2 ∷ 2 ∷ []) (0 ∷ 4 ∷ 3 ∷ [])
    ∷ case 6 0 2 (7 ∷ 0 ∷ 0 ∷ []) (9 ∷ 2 ∷ 2 ∷ []) (0 ∷ 3 ∷ 4 ∷ [])
    -- a better rank below the level
    ∷ case 6 1 0 (2 ∷ 6 ∷ 6 ∷ []) (9 ∷ 8 ∷ 3 ∷ []) (6 ∷ 8 ∷ 0 ∷ [])
    -- a contender alone takes all
    ∷ case 1 0 0 (7 ∷ 3 ∷ []) (0 ∷ 5 ∷ []) (10 ∷ 0 ∷ [])
    -- nobody left; the seat `first` not at the table; a chip too many; a seat too many
    ∷ case 0 0 0 (4 ∷ 4 ∷ []) (1 ∷ 2 ∷ []) (0 ∷ 0 ∷ [])
    ∷ case 3 0 2 (4 ∷ 4 ∷ []) (1 ∷ 2 ∷ []) (0 ∷ 0 ∷ [])
    ∷ case 3 0 0 (4000 ∷ 4001 ∷ []) (1 ∷ 2 ∷ []) (0 ∷ 0 ∷ [])
    ∷ case 3 0 0 (replicate 17 4) (1 ∷ 2 ∷ []) []
    ∷ []

-- all 16 places
padded : List ℕ → List ℕ
padded l = l ++ replicate (16 - length l) 0

right : map (λ c. awards_of c.hand) table ≡ map (λ c. padded c.gives) table
unfolding case table padded has with count_to sum_to most_to any_to filled seats_where ahead share_of contends is_level top level_below is_layer pot_of put_in holds reached best wins share award is_payable awards_of
right = refl
