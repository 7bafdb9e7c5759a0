-- What the theorems say of the tables and runs that are computed. Assumes nothing.
use Prim.Native.Nat.{◌+◌, ◌≤◌}
use native.Mathlib.Omega.{arith}
use mathlib.Core.Path.{◌≡◌, refl}
use mathlib.Core.Bool.{true, false}
use mathlib.Core.List.{[], ◌∷◌}
use lib.Ieee.{of_int, round, units, odd, size, span, climb, lt, le, eq}
use borrow.Author.Tests.{not-true, ltb-true, eqb-true, leb-true}
use Rattle.commons.specs.Folds.{sum_to}
use Rattle.commons.proofs.Bools.{differ}
use Rattle.seats.specs.Bits.{has, count_to}
use Rattle.chips.specs.Whole.{is_whole, chips_in, sum_chips}
use Rattle.order.specs.GoodOrder.{in_good_order, owing, chips_of, won_by}
use Rattle.order.specs.Run.{Run, stop, act, Comes, ComesOr, comes, ends}
use Rattle.order.specs.Step.{folds, bets, Step, Owes, HasTurn, acts, wins, Made}
use Rattle.order.proofs.Sample.{whole, two, start, raised, folded, early, late, above, called, paid, mixed, wide, once, twice, by_actions, by-awards, by-folds, actions_met, awards-met, folds-met}
use Rattle.order.proofs.Demand.{turn-comes, run_bound, awards_keep_chips}

-- ---- the runs
pub in_order_lem : in_good_order start ≡ true
unfolding by_actions
in_order_lem = actions_met 0

pub two_actions : Run Step start (bets (whole 20) ∷ folds ∷ []) folded
unfolding by_actions raised folded
two_actions =
    act {d = raised} {a = bets (whole 20)} (record { somebody = ltb-true _ _ (actions_met 1); accepted = (actions_met 2, eqb-true _ _ (actions_met 3), refl) })
    (act {a = folds} (record { somebody = ltb-true _ _ (actions_met 4); accepted = (eqb-true _ _ (actions_met 5), refl) }) stop)

pub four-moves : Run Made start mixed paid
unfolding by_actions by-awards raised above called paid early late
four-moves =
    act {d = raised} {a = acts (bets (whole 20))} (actions_met 2, eqb-true _ _ (actions_met 3), refl)
    (act {d = above} {a = wins early} (awards-met 1, eqb-true _ _ (awards-met 2), refl)
    (act {d = called} {a = acts (bets (whole 20))} (actions_met 2, eqb-true _ _ (awards-met 4), refl)
    (act {a = wins late} (awards-met 5, eqb-true _ _ (awards-met 6), refl) stop)))

pub two-folds : Run Step wide (folds ∷ folds ∷ []) twice
unfolding by-folds once twice
two-folds =
    act {d = once} {a = folds} (record { somebody = ltb-true _ _ (folds-met 1); accepted = (eqb-true _ _ (folds-met 2), refl) })
    (act {a = folds} (record { somebody = ltb-true _ _ (folds-met 3); accepted = (eqb-true _ _ (folds-met 4), refl) }) stop)

-- ---- what the theorems say of them
-- q 2, n 2, T 8000, b 10, m 10
pub at_most : 2 ≤ 803
unfolding start whole two count_to has sum_chips sum_to chips_in is_whole of_int round units odd size span climb lt le eq
at_most = run_bound in_order_lem two_actions

-- seat 1 owes, and sits one place on
pub seat-one : ComesOr Step (HasTurn 1) (Owes 1) 1 start (bets (whole 20) ∷ folds ∷ []) folded
unfolding start has
seat-one = turn-comes 1 1 in_order_lem (omega arith) refl refl two_actions

-- seat 3 of four owes, and sits three places on. The run has two actions, and after them it owes nothing: so it has had the turn
pub seat-three : Comes Step (HasTurn 3) 3 wide (folds ∷ folds ∷ []) twice
unfolding by-folds wide
seat-three = had (turn-comes 3 3 (folds-met 0) (omega arith) refl (folds-met 5) two-folds) (not-true _ (folds-met 6))
  where
    had : ComesOr Step (HasTurn 3) (Owes 3) 3 wide (folds ∷ folds ∷ []) twice → has (owing twice) 3 ≡ false → Comes Step (HasTurn 3) 3 wide (folds ∷ folds ∷ []) twice
    had (comes m) f = m
    had (ends l o) f = absurd (differ _ o f)

pub stays : chips_of paid ≡ chips_of start + won_by paid
unfolding by-awards
stays = awards_keep_chips in_order_lem (awards-met 0) four-moves (leb-true _ _ (awards-met 7))
