-- R14.5 to R14.10, demand 3: the accepted actions of a run. Each is what `fold` or `do_bet` promises of the table before it; nothing is forced. And the
-- accepted awards, and all three in any order. Definitions only.
use Rattle.std.specs.Prelude.{ℕ, ◌+◌, ◌%◌, ◌<◌, ◌≡◌, Bool, true, false, not, ◌&&◌, List, [], ◌∷◌, eqb, Float, Result}
use Rattle.std.specs.Float.{nan, inf, fin}
use Rattle.std.specs.Float.Ieee.Positive.{num, den}
use Rattle.refusals.specs.declared.Refusal.{Refusal}
use Rattle.refusals.specs.Rows.{verdict_number}
use Rattle.seats.specs.Bits.{has}
use Rattle.bets.specs.Bet.{size_for}
use Rattle.chips.specs.Whole.{is_whole, chips_in, all_whole}
use Rattle.table.specs.declared.GameState.{GameState}
use Rattle.table.specs.Pay.{actor, payer_in, faced_by, pays_of, bet_of, fold_of, award_of}
use Rattle.order.specs.GoodOrder.{won_by, owing, owing_in}

-- ---- R14.5: folds and bets
pub data Action : Type 0 where
  folds : Action
  bets : Float → Action

-- what is bet: a whole number of any size without a sign bit, or plus infinity
unfoldable pub is_stake : Float → Bool
is_stake nan = false
is_stake (inf s) = not s
is_stake (fin s m e) = not s && eqb (num (fin s m e) % den (fin s m e)) 0

-- what a bet by choice comes to on the table t, before its counters are looked at, and what it pays
abbrev pub size_of : GameState → Float → Result Float Refusal
size_of t a = size_for false a (faced_by (payer_in t))

abbrev pub due : GameState → Float → Float
due t a = pays_of (payer_in t) a false

-- in the table t the action is accepted, its number being 0, and gives the table u
abbrev pub Accepted : GameState → Action → GameState → Type 0
Accepted t folds u = (verdict_number (fold_of t).answer ≡ 0) × ((fold_of t).table ≡ u)
Accepted t (bets a) u = (is_stake a ≡ true) × (verdict_number (bet_of t a false).answer ≡ 0) × ((bet_of t a false).table ≡ u)

-- an action of a run, made while somebody owes
pub record Step (t : GameState) (a : Action) (u : GameState) : Type 0 where
  pub somebody : 0 < owing_in t
  pub accepted : Accepted t a u

-- R14.6: seat j owes; it is to act, and owes
abbrev pub Owes : ℕ → GameState → Type 0
Owes j t = has (owing t) j ≡ true

abbrev pub HasTurn : ℕ → GameState → Type 0
HasTurn j t = (actor t ≡ j) × Owes j t

-- ---- R14.10: awards, each of whole chips
pub record Award : Type 0 where
  pub seat : ℕ
  pub amount : Float

abbrev pub Awarded : GameState → Award → GameState → Type 0
Awarded t w u =
    let s = award_of t w.seat w.amount in
    (is_whole w.amount ≡ true) × (verdict_number s.answer ≡ 0) × (s.table ≡ u)

-- R14.10: the winnings are 0 at the start
abbrev pub nothing_won : GameState → Bool
nothing_won t = all_whole t.player_winnings t.num_players && eqb (won_by t) 0

-- ---- R14.10: folds, bets and awards, in any order
pub data Move : Type 0 where
  acts : Action → Move
  wins : Award → Move

abbrev pub Made : GameState → Move → GameState → Type 0
Made t (acts a) u = Accepted t a u
Made t (wins w) u = Awarded t w u

-- how many chips are awarded
abbrev pub award_in : Move → ℕ
award_in (acts a) = 0
award_in (wins w) = chips_in w.amount

unfoldable pub awards_in : List Move → ℕ
awards_in [] = 0
awards_in (m ∷ l) = award_in m + awards_in l
