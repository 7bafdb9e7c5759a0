-- Document 01's hands P1 to P14, and hands that part its rules from readings that tempt, as one table: each is run by the definition that the contract
-- of do_bet, fold, advance_round or advance_action cites, and the whole is closed by computing. Assumes nothing.
use Rattle.refusals.specs.Rows.{verdict_number}
use Prim.Native.Nat.{ℕ}
use mathlib.Core.Path.{◌≡◌, refl}
use mathlib.Core.Bool.{Bool, true, false}
use mathlib.Core.List.{List, [], ◌∷◌, ◌++◌}
use lib.Dec.{eqb}
use lib.IntN.{pos, negsuc}
use lib.ListN.{set, replicate, get_or}
use lib.Ieee.{Float, nan, inf, fin, binary32, of_int, eq, lt, le, add, sub, mul, is_nan}
use Rattle.floats.specs.Helpers.{zerof, max_of, min_of, abs_of, sign_of, tol_of, near_zero}
use Rattle.amounts.specs.Amounts.{zeros}
use Rattle.commons.specs.Filled.{filled}
use Rattle.commons.specs.Tests.{all_of}
use Rattle.seats.specs.Bits.{has, with, without}
use Rattle.commons.specs.First.{first_from}
use Rattle.seats.specs.Set.{of_bits}
use Rattle.rounds.specs.declared.Round.TheVariants.{DealPreflop, Preflop}
use Rattle.rounds.specs.Paying.{owing_after}
use Rattle.rounds.specs.Sound.{sound_parts}
use Rattle.rounds.specs.Steps.{new_data, advance_of as advanceData, passed_of}
use Rattle.rounds.specs.Walk.{distance, walk_of}
use Rattle.rounds.specs.With.{data_of}
use Rattle.table.specs.declared.GameState.{GameState}
use Rattle.table.specs.Answers.{bet_paid, bet_passed}
use Rattle.table.specs.Pay.{bet_of, fold_of, award_of}
use Rattle.table.specs.Rounds.{advance_of, first_turn, is_round}
use Rattle.table.specs.Sound.{sound_frame, board_ok, cards_ok}
use Rattle.table.specs.Added.{no_added, good_added}
use Rattle.table.specs.With.{table_of}

chips : ℕ → Float
chips n = of_int binary32 (pos n)

-- ---- a table: n seats at Preflop with these active and these owing, seat 0 to act with round bet p and stack k; the bet is b and the smallest
-- raise m; so many bets, raises and forced bets were made
spot : ℕ → ℕ → ℕ → ℕ → ℕ → ℕ → Float → Float → Float → Float → GameState
spot n active owing total raise force p k b m =
    table_of n active 0 p (set zeros 0 k) zeros (set zeros 0 p) zeros (chips 10) (chips 5) zerof 0 Preflop Preflop
    (data_of (of_bits active) (of_bits owing) m b (set zeros 0 p) n total raise force 0) (replicate 5 0) 0 true true true 3 no_added

-- two seats that are active and owe
hand : Float → Float → Float → Float → GameState
hand p k b m = spot 2 3 3 2 0 2 p k b m

-- ---- what a step shows: the number, what is paid, the walk's count and the seat it reached; who is active, all in and owes; the stack of seat 0, the
-- smallest raise, the bet, the pot; the count of raises
record Shown : Type 0 where
  number : ℕ
  pays : Float
  passed : ℕ
  seat : ℕ
  active : ℕ
  all_in : ℕ
  owing : ℕ
  stack : Float
  least : Float
  bet : Float
  pot : Float
  raises : ℕ

row : ℕ → Float → ℕ → GameState → Shown
row number x passed t =
    let d = t.round_data in
    record {
      number = number;
      pays = x;
      passed = passed;
      seat = d.to_act_idx;
      active = t.player_active.set;
      all_in = t.player_all_in.set;
      owing = d.needs_action.set;
      stack = get_or t.stacks 0 nan;
      least = d.min_raise;
      bet = d.bet;
      pot = t.total_pot;
      raises = d.total_raise_count;
    }

same : Shown → Shown → Bool
same x y =
    all_of
    (eqb x.number y.number
    ∷ eq x.pays y.pays
    ∷ eqb x.passed y.passed
    ∷ eqb x.seat y.seat
    ∷ eqb x.active y.active
    ∷ eqb x.all_in y.all_in
    ∷ eqb x.owing y.owing
    ∷ eq x.stack y.stack
    ∷ eq x.least y.least
    ∷ eq x.bet y.bet
    ∷ eq x.pot y.pot
    ∷ eqb x.raises y.raises
    ∷ [])

-- a bet of a is refused with this number and moves nothing
refuses-bet : Bool → ℕ → GameState → Float → Bool
refuses-bet forced n t a = let s = bet_of t a forced in same (row (verdict_number s.answer) (bet_paid s.answer) (bet_passed s.answer) s.table) (row n zerof 0 t)

refuses : ℕ → Float → Float → Float → Float → Float → Bool
refuses n p k b m a = refuses-bet false n (hand p k b m) a

-- a bet pays x and the walk passes so many seats on to this one; then these are active, all in and owe; stack, smallest raise, bet, pot and raises are these
pays-out : Bool → GameState → Float → Float → ℕ → ℕ → ℕ → ℕ → ℕ → Float → Float → Float → Float → ℕ → Bool
pays-out forced t a x passed seat active all_in owing stack least bet pot raises =
    let s = bet_of t a forced in
    same (row (verdict_number s.answer) (bet_paid s.answer) (bet_passed s.answer) s.table)
    (record { number = 0; pays = x; passed = passed; seat = seat; active = active; all_in = all_in; owing = owing; stack = stack; least = least; bet = bet; pot = pot; raises = raises })

-- a fold moves the turn and the two sets, and nothing else
folds : GameState → ℕ → ℕ → ℕ → ℕ → Bool
folds t passed seat active owing =
    let s = fold_of t in
    let d = t.round_data in
    same (row (verdict_number s.answer) zerof (passed_of s.answer) s.table)
    (record { number = 0; pays = zerof; passed = passed; seat = seat; active = active; all_in = 0; owing = owing; stack = get_or t.stacks 0 nan; least = d.min_raise; bet = d.bet; pot = t.total_pot; raises = d.total_raise_count })

-- an award of so many chips to seat 0, which has k: they go to stack and winnings, and the pot stays
awards : Float → Float → Float → Bool
awards k x stack =
    let s = award_of (hand (chips 5) k (chips 10) (chips 10)) 0 x in
    all_of
    (eqb (verdict_number s.answer) 0
    ∷ eqb (passed_of s.answer) 0
    ∷ eq (get_or s.table.stacks 0 nan) stack
    ∷ eq (get_or s.table.player_winnings 0 nan) x
    ∷ eq s.table.total_pot (chips 5)
    ∷ [])

-- a table of n in DealPreflop, seat 0 the dealer, of which these are active, goes on to Preflop: the turn
opens : ℕ → ℕ → ℕ → ℕ → Bool
opens n active seat passed =
    let s =
    advance_of
    (table_of n active 0 zerof zeros zeros zeros zeros (chips 10) (chips 5) zerof 0 DealPreflop DealPreflop (new_data n zerof (of_bits active) 0) (replicate 5 0) 0 true true true 3 no_added)
    in
    all_of
    (eqb (verdict_number s.answer) 0
    ∷ eqb (passed_of s.answer) passed
    ∷ eqb s.table.round_data.to_act_idx seat
    ∷ eqb s.table.round_data.needs_action.set active
    ∷ is_round s.table.round 3
    ∷ [])

-- six seats, the last to act, of which these owe: the walk
walks : ℕ → ℕ → ℕ → Bool
walks owing seat passed =
    let r = advanceData (new_data 6 zerof (of_bits owing) 5) in
    all_of (eqb (verdict_number r.answer) 0 ∷ eqb r.round_data.to_act_idx seat ∷ eqb (passed_of r.answer) passed ∷ [])

-- ---- document 01's own
pub paper : List Bool
paper =
    -- P1: a = -0.0. P2: NaN
    refuses 14 zerof (chips 100) (chips 10) (chips 10) (fin true 0 (pos 0))
    ∷ refuses 14 zerof (chips 100) (chips 10) (chips 10) nan
    -- P3: plus infinity, k 100, p 0, B 10
    ∷ pays-out false (hand zerof (chips 100) (chips 10) (chips 10)) (inf false) (chips 100) 1 1 2 1 2 zerof (chips 90) (chips 100) (chips 100) 1
    -- P4, P5, P6: p 5, k 95, B 10, m 10; a 9, 15, 20
    ∷ refuses 16 (chips 5) (chips 95) (chips 10) (chips 10) (chips 9)
    ∷ refuses 17 (chips 5) (chips 95) (chips 10) (chips 10) (chips 15)
    ∷ pays-out false (hand (chips 5) (chips 95) (chips 10) (chips 10)) (chips 20) (chips 15) 1 1 3 0 2 (chips 80) (chips 10) (chips 20) (chips 20) 1
    -- P7: k 12, p 0, B 10, m 10, a 12: m stays
    ∷ pays-out false (hand zerof (chips 12) (chips 10) (chips 10)) (chips 12) (chips 12) 1 1 2 1 2 zerof (chips 10) (chips 12) (chips 12) 1
    -- P8: p = B = 10,000, k 5,000, a 9,999 pays -1, the pot falls. P9: p = B = 1,000, a 999
    ∷ pays-out false (hand (chips 10000) (chips 5000) (chips 10000) (chips 10)) (chips 9999) (fin true 1 (pos 0)) 1 1 3 0 2 (chips 5001) (chips 10) (chips 10000) (chips 9999) 0
    ∷ refuses 15 (chips 1000) (chips 5000) (chips 1000) (chips 10) (chips 999)
    -- P10: forced NaN, k 40
    ∷ pays-out true (hand zerof (chips 40) (chips 10) (chips 10)) nan (chips 40) 1 1 2 1 2 zerof (chips 30) (chips 40) (chips 40) 0
    -- P11: forced 0 with k = 2 ^ -23 is all in. P12: with k = 2 ^ -22 it is not, and the payer still owes
    ∷ pays-out true (hand zerof (fin false 1 (negsuc 22)) (chips 10) (chips 10)) zerof zerof 1 1 2 1 2 (fin false 1 (negsuc 22)) (chips 10) (chips 10) zerof 0
    ∷ pays-out true (hand zerof (fin false 1 (negsuc 21)) (chips 10) (chips 10)) zerof zerof 1 1 3 0 3 (fin false 1 (negsuc 21)) (chips 10) (chips 10) zerof 0
    -- P13: nobody owes. P14: only seat 5 owes
    ∷ walks 0 0 1
    ∷ walks 32 5 6
    ∷ []

-- ---- readings that tempt
pub tempting : List Bool
tempting =
    -- all in by the tolerance, not by EPSILON: 99.99 of 100 against 150 is taken; and the seat, with a hundredth left, stays active
    pays-out false (hand zerof (chips 100) (chips 150) (chips 10)) (fin false 13105889 (negsuc 16)) (fin false 13105889 (negsuc 16)) 1 1 3 0 2 (fin false 1311 (negsuc 16)) (chips 10) (chips 150) (fin false 13105889 (negsuc 16)) 0
    -- a forced bet that lifts the bet: all active seats owe, the payer too, and it is no raise
    ∷ pays-out true (hand zerof (chips 100) (chips 10) (chips 10)) (chips 15) (chips 15) 1 1 3 0 3 (chips 85) (chips 10) (chips 15) (chips 15) 0
    -- of three seats the next owes nothing: a call passes on two seats, a fold too
    ∷ pays-out false (spot 3 7 5 2 0 2 zerof (chips 100) (chips 10) (chips 10)) (chips 10) (chips 10) 2 2 7 0 4 (chips 90) (chips 10) (chips 10) (chips 10) 0
    ∷ folds (spot 3 7 5 2 0 2 zerof (chips 100) (chips 10) (chips 10)) 2 2 6 4
    -- only the forced payer owes: the walk comes back, past n seats
    ∷ pays-out true (spot 3 7 1 2 0 2 zerof (chips 100) (chips 10) (chips 10)) (chips 10) (chips 10) 3 0 7 0 1 (chips 90) (chips 10) (chips 10) (chips 10) 0
    -- nobody else owes: one seat on
    ∷ pays-out false (spot 3 7 1 2 0 2 zerof (chips 100) (chips 10) (chips 10)) (chips 10) (chips 10) 1 1 7 0 0 (chips 90) (chips 10) (chips 10) (chips 10) 0
    -- a full counter is 21 where the bet would raise it, and only there: of bets, of raises (a raise, a call), of forced bets (forced, by choice)
    ∷ refuses-bet false 21 (spot 2 3 3 255 0 2 zerof (chips 100) (chips 10) (chips 10)) (chips 10)
    ∷ refuses-bet false 21 (spot 2 3 3 2 255 2 zerof (chips 100) (chips 10) (chips 10)) (chips 20)
    ∷ pays-out false (spot 2 3 3 2 255 2 zerof (chips 100) (chips 10) (chips 10)) (chips 10) (chips 10) 1 1 3 0 2 (chips 90) (chips 10) (chips 10) (chips 10) 255
    ∷ refuses-bet true 21 (spot 2 3 3 2 0 255 zerof (chips 100) (chips 10) (chips 10)) (chips 10)
    ∷ pays-out false (spot 2 3 3 2 0 255 zerof (chips 100) (chips 10) (chips 10)) (chips 10) (chips 10) 1 1 3 0 2 (chips 90) (chips 10) (chips 10) (chips 10) 0
    -- 14 to 17 come before 21
    ∷ refuses-bet false 17 (spot 2 3 3 255 255 2 zerof (chips 100) (chips 10) (chips 10)) (chips 15)
    -- B a NaN: B becomes 20 and has not risen, so who owed owes, and no raise is counted
    ∷ pays-out false (spot 3 7 3 2 0 2 (chips 10) (chips 90) nan (chips 10)) (chips 20) (chips 10) 1 1 7 0 2 (chips 80) (chips 10) (chips 20) (chips 20) 0
    -- m a NaN: a check makes it 0
    ∷ pays-out false (hand (chips 10) (chips 90) (chips 10) nan) (chips 10) zerof 1 1 3 0 2 (chips 90) zerof (chips 10) (chips 10) 0
    -- two left of three: the walk is done once. Two seats: twice, and the count is both together, also where one of them or none is active
    ∷ opens 3 6 1 1
    ∷ opens 2 3 0 2
    ∷ opens 2 2 1 3
    ∷ opens 2 1 0 4
    ∷ opens 2 0 0 2
    -- an award leaves the pot
    ∷ awards (chips 95) (chips 3) (chips 98)
    ∷ []

pub right : all_of (paper ++ tempting) ≡ true
unfolding paper tempting refuses refuses-bet pays-out folds awards opens walks same row hand spot chips bet_of fold_of award_of advance_of first_turn owing_after sound_frame board_ok cards_ok good_added sound_parts advanceData walk_of distance first_from filled has with without max_of min_of abs_of sign_of tol_of near_zero of_int eq lt le add sub mul is_nan
right = refl
