-- Demand 3, and what document 01 says of good order, on the table's record. The runs are of accepted folds and bets by choice, as `fold` and `do_bet` promise them; they
-- start from the test `in_good_order`. The record is a play of the turn machine, whose theorems these are. Assumes nothing.
use Prim.Native.Nat.{ℕ, ◌+◌, ◌%◌, ◌≤◌, ◌<◌}
use mathlib.Core.Path.{◌≡◌, refl}
use mathlib.Core.Bool.{true}
use mathlib.Core.List.{List}
use lib.ListN.{length}
use lib.Ieee.{Float}
use Rattle.rounds.specs.Steps.{put_in}
use Rattle.chips.specs.Rule.{Amount, rule_of}
use Rattle.chips.specs.Whole.{chips_in}
use Rattle.chips.proofs.Amounts.{Means}
use Rattle.chips.proofs.Bet.{Same}
use Rattle.table.specs.declared.GameState.{GameState}
use Rattle.table.specs.Pay.{actor, stack_of}
use Rattle.order.specs.GoodOrder.{chips_of, won_by, owing, owing_in, in_good_order, in_order}
use Rattle.order.specs.Run.{Run, ComesOr, longest}
use Rattle.order.specs.Step.{Action, size_of, Accepted, Step, Owes, HasTurn, Move, Made, nothing_won, awards_in}
use Rattle.order.proofs.Sets.{count-is}
use Rattle.order.proofs.Turn as Turn
use Rattle.order.proofs.Raise.{base}
use Rattle.order.proofs.Play.{Play, game, run_keeps}
use Rattle.order.proofs.Record.{sorted, in_order_lem, in_good_order_lem, as_read}
use Rattle.order.proofs.PayRecord.{follows}
use Rattle.order.proofs.Moves.{ordered_chips, ordered_sorted, ordered_keeps, record_play}
use Rattle.order.proofs.Hand.{hand-keeps-chips}

-- the play of the runs that begin at t, and that its invariant holds there
abbrev plays : (t : GameState) → Play GameState Action base t.num_players (chips_of t)
plays t = record_play t.num_players (chips_of t)

begins : (t : GameState) → in_order t ≡ true → (plays t).Inv t
begins t e = let s = sorted t e in record { seats = refl; whole = s.0; good = s.1 }

-- ---- demand 3
module _ {t u : GameState} {l : List Action} where
  -- R14.6: a seat that owes and sits d places on has the turn after d actions or fewer. Where the run has fewer, it still owes.
  pub turn-comes : (d j : ℕ) → in_good_order t ≡ true → d < t.num_players → j ≡ (actor t + d) % t.num_players → Owes j t
      → Run Step t l u → ComesOr Step (HasTurn j) (Owes j) d t l u
  turn-comes d j e = Turn.turn-comes (game (plays t)) d j (begins t (as_read t e))

  -- R14.7: a run ends, and how long it can be
  pub run_bound : in_good_order t ≡ true → Run Step t l u
      → length l ≤ longest (owing_in t) t.num_players (chips_of t) (chips_in t.round_data.bet) (chips_in t.round_data.min_raise)
  run_bound e r = rw (← count-is t.num_players (owing t)) (Turn.run_bound (game (plays t)) (begins t (as_read t e)) r)

-- ---- good order
module _ {t u : GameState} {l : List Action} where
  run_ordered : in_good_order t ≡ true → Run Step t l u → (plays t).Inv u
  run_ordered e = run_keeps (plays t) (begins t (as_read t e))

  -- R14.8: good order is kept, while a seat owes
  pub run_keeps_order : in_good_order t ≡ true → Run Step t l u → 0 < owing_in u → in_good_order u ≡ true
  run_keeps_order e r = let s = ordered_sorted (run_ordered e r) in in_good_order_lem u s.0 s.1

  -- R14.9: stacks and pot together stay
  pub run_keeps-chips : in_good_order t ≡ true → Run Step t l u → chips_of u ≡ chips_of t
  run_keeps-chips e r = ordered_chips (run_ordered e r)

-- R14.10: with awards they grow by what is won, if nothing was won before and no more is awarded than the pot.
-- In whatever order folds, bets and awards come, and the pot as it ends. As a sum: a difference of numbers would be cut at 0.
pub awards_keep_chips : {t u : GameState} {l : List Move} → in_good_order t ≡ true → nothing_won t ≡ true → Run Made t l u → awards_in l ≤ chips_in u.total_pot
    → chips_of u ≡ chips_of t + won_by u
awards_keep_chips {t} e z = hand-keeps-chips t (sorted t (as_read t e)) z

-- read as "if any seat owes, the seat to act does", it is kept by each accepted action, the last one and those after it too
module _ (t : GameState) (e : in_order t ≡ true) where
  pub action_keeps_order : (a : Action) (u : GameState) → Accepted t a u → in_order u ≡ true
  action_keeps_order a u s = let o = ordered_sorted (ordered_keeps (begins t e) a u s) in in_order_lem u o.0 o.1

  pub action_keeps-chips : (a : Action) (u : GameState) → Accepted t a u → chips_of u ≡ chips_of t
  action_keeps-chips a u s = ordered_chips (ordered_keeps (begins t e) a u s)

  -- R10.5: a bet follows the rule without slack: the same refusal, or the same payment
  pub bets_follow : (a : Float) (m : Amount) → Means a m
      → Same (size_of t a) (rule_of m (chips_in (put_in t.round_data)) (chips_in (stack_of t)) (chips_in t.round_data.bet) (chips_in t.round_data.min_raise))
  bets_follow = let s = sorted t e in follows t s.0 s.1
