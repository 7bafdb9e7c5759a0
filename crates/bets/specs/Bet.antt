-- Section 6, a bet of amount a by a seat that faces f: its round bet p and stack k, the bet B and the smallest raise m.
-- Definitions only.
use Rattle.std.specs.Prelude.{Result, Ok, Err}
use Rattle.refusals.specs.declared.Refusal.{Refusal}
use Rattle.std.specs.Prelude.{Bool, cond, not, ◌&&◌, ◌||◌, List, [], ◌∷◌, Float}
use Rattle.std.specs.Float.{binary32}
use Rattle.std.specs.Float.Ieee.{add, sub, lt, is_nan}
use Rattle.floats.specs.Helpers.{max_of, min_of, abs_of, sign_of, tol_of, one, zerof}
use Rattle.refusals.specs.declared.GameStateError.TheVariants.{BetInvalidSize, BetSizeDoesntCallSelf, BetSizeDoesntCall, RaiseSizeTooSmall}
use Rattle.refusals.specs.declared.Refusal.TheVariants.{Bet}
use Rattle.refusals.specs.Rows.{Row, row, judge, answer}
use Rattle.bets.specs.declared.Facing.{Facing}

-- R6.1: what the seat faces
abbrev pub facing : Float → Float → Float → Float → Facing
facing p k b m = record { round_bet = p; stack = k; bet = b; min_raise = m }

-- ---- the amounts
-- R6.2: e is tol of the largest of |a|, |B| and 1
abbrev pub slack_of : Float → Float → Float
slack_of a b = tol_of (max_of (max_of (abs_of a) (abs_of b)) one)

-- R6.4: x is what is missing to a, the stack at most
abbrev pub payment_of : Float → Float → Float → Float
payment_of a p k = min_of k (sub binary32 a p)

-- R6.6: r is by how much the new round bet y is above B
abbrev pub raise_by : Float → Float → Float
raise_by y b = max_of (sub binary32 y b) zerof

-- R6.7: all in, where x is the stack but for the stack's own tolerance
abbrev pub is_all_in : Float → Float → Bool
is_all_in x k = lt (abs_of (sub binary32 x k)) (tol_of (max_of (abs_of k) one))

-- ---- the tests
-- R6.3: 14, where the sign bit is set or a is a NaN
abbrev pub invalid_size : Float → Bool
invalid_size a = sign_of a || is_nan a

-- R6.5: 15, where p is above a + e
abbrev pub doesnt_call_self : Float → Float → Float → Bool
doesnt_call_self a e p = lt (add binary32 a e) p

-- R6.8: 16, where y + e is below B, unless all in
abbrev pub doesnt_call : Float → Float → Float → Bool → Bool
doesnt_call y e b all = lt (add binary32 y e) b && not all

-- R6.9: 17, where r is above e and r + e below m, unless all in
abbrev pub too_small : Float → Float → Float → Bool → Bool
too_small r e m all = lt e r && (not all && lt (add binary32 r e) m)

-- ---- the rows
-- R6.10: of a payment x, 16, 17
abbrev pub payment_rows : Float → Float → Facing → List Row
payment_rows x e f =
    let y = add binary32 f.round_bet x in
    let all = is_all_in x f.stack in
    row (doesnt_call y e f.bet all) (Bet BetSizeDoesntCall)
    ∷ row (too_small (raise_by y f.bet) e f.min_raise all) (Bet RaiseSizeTooSmall)
    ∷ []

-- R6.10: of a bet by choice, 14, 15, 16, 17
abbrev pub bet_rows : Float → Facing → List Row
bet_rows a f =
    let e = slack_of a f.bet in
    row (invalid_size a) (Bet BetInvalidSize)
    ∷ row (doesnt_call_self a e f.round_bet) (Bet BetSizeDoesntCallSelf)
    ∷ payment_rows (payment_of a f.round_bet f.stack) e f

-- R6.11: a forced bet is taken with any amount
abbrev pub size_rows : Bool → Float → Facing → List Row
size_rows forced a f = cond forced [] (bet_rows a f)

-- R6.11: what is paid; of a forced bet the amount itself, the stack at most
abbrev pub pays_for : Bool → Float → Facing → Float
pays_for forced a f = cond forced (min_of f.stack a) (payment_of a f.round_bet f.stack)

-- ---- R6.10: the answers, the payment or the first row that holds
unfoldable pub sized : Float → Float → Facing → Result Float Refusal
sized x e f = answer (Ok x) Err (judge (payment_rows x e f))

unfoldable pub bet_size : Float → Facing → Result Float Refusal
bet_size a f = answer (Ok (payment_of a f.round_bet f.stack)) Err (judge (bet_rows a f))

unfoldable pub size_for : Bool → Float → Facing → Result Float Refusal
size_for forced a f = answer (Ok (pays_for forced a f)) Err (judge (size_rows forced a f))
