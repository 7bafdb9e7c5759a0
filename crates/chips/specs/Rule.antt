-- R10.5: the bet on whole chips, without slack: of amount a by a seat with round bet p and stack k, where the bet is b and the smallest raise m; all in
-- is x = k. Definitions only.
use Rattle.std.specs.Prelude.{ℕ, ◌+◌, ◌-◌, min, Bool, false, not, ◌&&◌, List, [], ◌∷◌, nat_eq, nat_lt}
use Rattle.refusals.specs.declared.GameStateError.TheVariants.{BetSizeDoesntCallSelf, BetSizeDoesntCall, RaiseSizeTooSmall}
use Rattle.refusals.specs.declared.Refusal.{Refusal}
use Rattle.refusals.specs.declared.Refusal.TheVariants.{Bet}
use Rattle.refusals.specs.Rows.{Row, row, judge, answer}

-- a whole number of chips, or plus infinity
pub data Amount : Type 0 where
  chips : ℕ → Amount
  endless : Amount

-- the payment, or why there is none
pub data Ruling : Type 0 where
  pays : ℕ → Ruling
  refused : Refusal → Ruling

-- 15, where p is above a
abbrev pub lacks : Amount → ℕ → Bool
lacks (chips a) p = nat_lt a p
lacks endless p = false

-- x, what is missing to a, the stack at most
abbrev pub pay_of : Amount → ℕ → ℕ → ℕ
pay_of (chips a) p k = min k (a - p)
pay_of endless p k = k

-- y = p + x and r = y - b, unless all in: 16, where y is below b; 17, where r is above 0 and below m
abbrev pub pay_rows : ℕ → ℕ → ℕ → ℕ → ℕ → List Row
pay_rows x p k b m =
    let y = p + x in
    let r = y - b in
    let all = nat_eq x k in
    row (nat_lt y b && not all) (Bet BetSizeDoesntCall) ∷ row (nat_lt 0 r && (not all && nat_lt r m)) (Bet RaiseSizeTooSmall) ∷ []

abbrev pub rule_rows : Amount → ℕ → ℕ → ℕ → ℕ → List Row
rule_rows a p k b m = row (lacks a p) (Bet BetSizeDoesntCallSelf) ∷ pay_rows (pay_of a p k) p k b m

unfoldable pub rule_of : Amount → ℕ → ℕ → ℕ → ℕ → Ruling
rule_of a p k b m = answer (pays (pay_of a p k)) refused (judge (rule_rows a p k b m))
