-- Small cases at the edges, closed by computing: which amounts are whole, the bet on both sides of each of its lines, and where the rule with e = 0 first fails,
-- past 8,000: the bet itself, on floats. Assumes nothing.
use Rattle.std.proofs.Common.{◌≡◌, ℕ, Bool, true, false, not, eqb, List, [], ◌∷◌, pos, negsuc, refl}
use lib.Ieee.{Float, nan, inf, fin, binary32, of_int, round, units, odd, size, span, climb, add, sub, sum, neg, mul, lt, le, eq, is_nan}
use Rattle.std.specs.Prelude.{Result, Ok, Err}
use Rattle.commons.specs.Tests.{all_of}
use Rattle.refusals.specs.Number.{number_of}
use Rattle.floats.specs.Helpers.{max_of, min_of, abs_of, sign_of, tol_of}
use Rattle.bets.specs.Bet.{facing, bet_size}
use Rattle.commons.specs.Folds.{sum_to, all_to}
use Rattle.refusals.specs.declared.Refusal.{Refusal}
use Rattle.chips.specs.Whole.{is_whole, chips_in, all_whole, sum_chips}
use Rattle.chips.specs.Rule.{chips, endless, Ruling, pays, refused, rule_of}

-- the float of a whole number
n : ℕ → Float
n k = of_int binary32 (pos k)

half : Float
half = fin false 1 (negsuc 0)

minus_zero : Float
minus_zero = fin true 0 (pos 0)

-- the bet is refused with this number, or pays this
no : Result Float Refusal → ℕ → Bool
no (Ok x) g = false
no (Err r) g = eqb (number_of r) g

paid : Result Float Refusal → Float → Bool
paid (Ok y) x = eq y x
paid (Err r) x = false

-- and so the rule on numbers
rule_no : Ruling → ℕ → Bool
rule_no (pays x) g = false
rule_no (refused r) g = eqb (number_of r) g

rule_paid : Ruling → ℕ → Bool
rule_paid (pays x) k = eqb x k
rule_paid (refused r) k = false

pub cases : List Bool
cases =
    -- whole numbers 0 to 8,000
    is_whole (n 0)
    ∷ is_whole minus_zero
    ∷ is_whole (n 8000)
    ∷ not (is_whole (n 8001))
    ∷ not (is_whole half)
    ∷ not (is_whole (neg (n 1)))
    ∷ not (is_whole (inf false))
    ∷ not (is_whole nan)
    ∷ eqb (chips_in (n 8000)) 8000
    ∷ eqb (chips_in (n 8001)) 0
    ∷ eqb (chips_in half) 0
    -- the first places of a list; past its end nothing is whole, and nothing counts
    ∷ all_whole (n 3 ∷ n 4 ∷ half ∷ []) 2
    ∷ not (all_whole (n 3 ∷ n 4 ∷ half ∷ []) 3)
    ∷ not (all_whole (n 3 ∷ n 4 ∷ []) 3)
    ∷ eqb (sum_chips (n 3 ∷ n 4 ∷ half ∷ []) 17) 7
    -- 15, at 8,000 chips
    ∷ no (bet_size (n 7999) (facing (n 8000) (n 0) (n 8000) (n 1))) 15
    ∷ rule_no (rule_of (chips 7999) 8000 0 8000 1) 15
    -- 16, and not where the stack is all in
    ∷ no (bet_size (n 7999) (facing (n 7998) (n 2) (n 8000) (n 1))) 16
    ∷ rule_no (rule_of (chips 7999) 7998 2 8000 1) 16
    ∷ paid (bet_size (n 7999) (facing (n 7998) (n 1) (n 8000) (n 1))) (n 1)
    ∷ rule_paid (rule_of (chips 7999) 7998 1 8000 1) 1
    -- 17, the smallest raise, and all in for less
    ∷ no (bet_size (n 15) (facing (n 5) (n 95) (n 10) (n 10))) 17
    ∷ rule_no (rule_of (chips 15) 5 95 10 10) 17
    ∷ paid (bet_size (n 20) (facing (n 5) (n 95) (n 10) (n 10))) (n 15)
    ∷ rule_paid (rule_of (chips 20) 5 95 10 10) 15
    ∷ paid (bet_size (n 12) (facing (n 0) (n 12) (n 10) (n 10))) (n 12)
    ∷ rule_paid (rule_of (chips 12) 0 12 10 10) 12
    -- above all chips, and plus infinity; -0.0 is 14, and no amount of the rule
    ∷ paid (bet_size (n 8001) (facing (n 0) (n 8000) (n 10) (n 10))) (n 8000)
    ∷ paid (bet_size (inf false) (facing (n 0) (n 100) (n 10) (n 10))) (n 100)
    ∷ rule_paid (rule_of endless 0 100 10 10) 100
    ∷ no (bet_size minus_zero (facing (n 0) (n 100) (n 0) (n 10))) 14
    -- 8,385 chips still follow the rule; at 8,386 a bet below the seat's own passes, and pays -1
    ∷ no (bet_size (n 8383) (facing (n 8384) (n 1) (n 8384) (n 1))) 15
    ∷ paid (bet_size (n 8384) (facing (n 8385) (n 1) (n 8385) (n 1))) (neg (n 1))
    ∷ rule_no (rule_of (chips 8384) 8385 1 8385 1) 15
    ∷ []

pub right : all_of cases ≡ true
unfolding cases n half minus_zero no paid rule_no rule_paid is_whole chips_in all_whole sum_chips sum_to all_to bet_size rule_of max_of min_of abs_of sign_of tol_of of_int round units odd size span climb add sub sum neg mul lt le eq is_nan
right = refl
