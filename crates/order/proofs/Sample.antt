-- Tables in good order and runs of them, with what is asked of them, closed by computing. So what the theorems ask can be met. Assumes nothing.
use Prim.Native.Nat.{ℕ}
use mathlib.Core.Path.{◌≡◌, refl}
use mathlib.Core.Bool.{Bool, true, false, not}
use mathlib.Core.List.{List, [], ◌∷◌, ◌++◌}
use lib.Dec.{leb, ltb, eqb}
use lib.IntN.{pos}
use lib.ListN.{replicate, get_or}
use lib.Ieee.{Float, binary32, of_int, round, units, odd, size, span, climb, add, sub, sum, neg, mul, lt, le, eq, is_nan}
use Rattle.commons.specs.Tests.{all_of}
use Rattle.commons.specs.First.{first_from}
use Rattle.commons.specs.Folds.{sum_to, all_to}
use Rattle.commons.proofs.Tests.{test_at}
use Rattle.refusals.specs.Rows.{verdict_number}
use Rattle.floats.specs.Helpers.{max_of, min_of, abs_of, sign_of, tol_of, near_zero, zerof}
use Rattle.amounts.specs.Amounts.{largest_of}
use Rattle.seats.specs.Bits.{has, count_to, without}
use Rattle.seats.specs.Set.{of_bits}
use Rattle.rounds.specs.declared.Round.TheVariants.{Preflop, DealPreflop, Flop, DealFlop}
use Rattle.rounds.specs.Paying.{owing_after}
use Rattle.rounds.specs.Walk.{distance, walk_of}
use Rattle.rounds.specs.With.{data_of}
use Rattle.chips.specs.Whole.{most, is_whole, chips_in, all_whole, sum_chips}
use Rattle.table.specs.declared.GameState.{GameState}
use Rattle.table.specs.Added.{no_added, good_added}
use Rattle.table.specs.Pay.{bet_of, fold_of, award_of}
use Rattle.table.specs.Sound.{cards_ok, board_ok, sound_frame}
use Rattle.table.specs.With.{table_of}
use Rattle.order.specs.GoodOrder.{in_good_order, owing, owing_in, chips_of}
use Rattle.order.specs.Step.{bets, is_stake, Award, Move, acts, wins, nothing_won, awards_in}

unfoldable pub whole : ℕ → Float
whole k = of_int binary32 (pos k)

-- 16 places, two or four of them used
unfoldable pub two : ℕ → ℕ → List Float
two a b = whole a ∷ whole b ∷ replicate 14 zerof

pub four : ℕ → List Float
four a = replicate 4 (whole a) ++ replicate 12 zerof

-- ---- a table of two: seat 0 raises to 20, and seat 1 folds
unfoldable pub start : GameState
start =
    table_of 2 3 0 (whole 15) (two 3995 3990) (two 4000 4000) (two 5 10) (two 0 0) (whole 10) (whole 5) (whole 0) 0 Preflop DealPreflop
    (data_of (of_bits 3) (of_bits 3) (whole 10) (whole 10) (two 5 10) 2 2 0 2 0) (replicate 5 0) 0 true true true 3 no_added

unfoldable pub raised : GameState
raised = (bet_of start (whole 20) false).table

unfoldable pub folded : GameState
folded = (fold_of raised).table

unfoldable pub by_actions : List Bool
by_actions =
    in_good_order start
    ∷ ltb 0 (owing_in start)
    ∷ is_stake (whole 20)
    ∷ eqb (verdict_number (bet_of start (whole 20) false).answer) 0
    ∷ ltb 0 (owing_in raised)
    ∷ eqb (verdict_number (fold_of raised).answer) 0
    ∷ []

-- ---- or seat 1 is awarded 10, which brings stacks and pot above 8,000, and calls; then seat 0 is awarded 30
unfoldable pub early : Award
early = record { seat = 1; amount = whole 10 }

unfoldable pub late : Award
late = record { seat = 0; amount = whole 30 }

unfoldable pub above : GameState
above = (award_of raised 1 (whole 10)).table

unfoldable pub called : GameState
called = (bet_of above (whole 20) false).table

unfoldable pub paid : GameState
paid = (award_of called 0 (whole 30)).table

abbrev pub mixed : List Move
mixed = acts (bets (whole 20)) ∷ wins early ∷ acts (bets (whole 20)) ∷ wins late ∷ []

unfoldable pub by-awards : List Bool
by-awards =
    nothing_won start
    ∷ is_whole (whole 10)
    ∷ eqb (verdict_number (award_of raised 1 (whole 10)).answer) 0
    ∷ ltb most (chips_of above)
    ∷ eqb (verdict_number (bet_of above (whole 20) false).answer) 0
    ∷ is_whole (whole 30)
    ∷ eqb (verdict_number (award_of called 0 (whole 30)).answer) 0
    ∷ leb (awards_in mixed) (chips_in paid.total_pot)
    ∷ []

-- ---- a table of four, where seats 0 and 3 owe, and both fold: a run shorter than seat 3 sits places on
unfoldable pub wide : GameState
wide =
    table_of 4 15 0 (whole 40) (four 90) (four 100) (four 10) (four 0) (whole 10) (whole 5) (whole 0) 0 Flop DealFlop
    (data_of (of_bits 15) (of_bits 9) (whole 10) (whole 10) (four 10) 4 0 0 0 0) (replicate 5 0) 0 true true true 3 no_added

unfoldable pub once : GameState
once = (fold_of wide).table

unfoldable pub twice : GameState
twice = (fold_of once).table

unfoldable pub by-folds : List Bool
by-folds =
    in_good_order wide
    ∷ ltb 0 (owing_in wide)
    ∷ eqb (verdict_number (fold_of wide).answer) 0
    ∷ ltb 0 (owing_in once)
    ∷ eqb (verdict_number (fold_of once).answer) 0
    ∷ has (owing wide) 3
    ∷ not (has (owing twice) 3)
    ∷ []

-- ---- all of it is met
asked : List Bool
asked = all_of by_actions ∷ all_of by-awards ∷ all_of by-folds ∷ []

met : all_of asked ≡ true
unfolding asked by_actions by-awards by-folds start raised folded early late above called paid wide once twice whole two four in_good_order is_stake awards_in bet_of fold_of award_of owing_after sound_frame board_ok cards_ok good_added walk_of distance first_from has without count_to all_whole is_whole chips_in sum_chips sum_to all_to largest_of near_zero max_of min_of abs_of sign_of tol_of of_int round units odd size span climb add sub sum neg mul lt le eq is_nan
met = refl

-- each by its place in its list
pub actions_met : (k : ℕ) → get_or by_actions k true ≡ true
unfolding asked
actions_met = test_at by_actions (test_at asked met 0)

pub awards-met : (k : ℕ) → get_or by-awards k true ≡ true
unfolding asked
awards-met = test_at by-awards (test_at asked met 1)

pub folds-met : (k : ℕ) → get_or by-folds k true ≡ true
unfolding asked
folds-met = test_at by-folds (test_at asked met 2)
