-- An accepted bet of whole chips pays what the rule on numbers pays, and what the payment leaves in the stack, the round bet, the bet and the smallest raise is exact.
-- Assumes nothing.
use Rattle.std.proofs.Common.{◌≡◌, ℕ, ◌+◌, ◌-◌, ◌≤◌, max, eqb, ltb, refl, ◌∙◌, subst, arith}
use lib.Ieee.{Float, binary32, add, sub, lt}
use Rattle.std.specs.Prelude.{Result, Ok}
use Rattle.floats.specs.Helpers.{max_of, near_zero}
use Rattle.bets.specs.Bet.{facing, bet_size}
use Rattle.chips.specs.Whole.{most}
use Rattle.chips.specs.Rule.{Amount, Ruling, pays, rule_of}
use Rattle.commons.proofs.Order.{ltb-same, eqb_same}
use Rattle.refusals.specs.declared.Refusal.{Refusal}
use Rattle.chips.proofs.Value.{Is, lt-whole}
use Rattle.chips.proofs.Add.{add-whole, sub-whole}
use Rattle.chips.proofs.Helpers.{max-whole, near_zero_lem}
use Rattle.chips.proofs.Amounts.{Means}
use Rattle.chips.proofs.Bet.{Same, both-pay, bet-is}

-- document 01, "Paying x": of a seat with round bet P and stack K, where the bet is B and the smallest raise M
pub record Paid (p k b m x : Float) (P K B M X : ℕ) : Type 0 where
  pub stack : Is (sub binary32 k x) (K - X)
  pub round : Is (add binary32 p x) (P + X)
  pub bet : Is (max_of b (add binary32 p x)) (max B (P + X))
  pub rise : Is (sub binary32 (max_of b (add binary32 p x)) b) (max B (P + X) - B)
  pub least : Is (max_of m (sub binary32 (max_of b (add binary32 p x)) b)) (max M (max B (P + X) - B))
  -- whether the bet rose, and whether the stack counts as nothing
  pub rose : lt b (max_of b (add binary32 p x)) ≡ ltb B (P + X)
  pub empty : near_zero (sub binary32 k x) ≡ eqb X K

-- a payment is matched by a payment
pays_too : {r : Ruling} {x : Float} → Same (Ok x) r → (X : ℕ) × (r ≡ pays X) × Is x X
pays_too (both-pay {n} h) = (n, refl, h)

module _ {p k b m : Float} {P K B M : ℕ} (hp : Is p P) (hk : Is k K) (hb : Is b B) (hm : Is m M) (fit : P + K ≤ most) (fits : B ≤ most) where
  pub paid-is : {x : Float} {X : ℕ} → Is x X → X ≤ K → Paid p k b m x P K B M X
  paid-is {x} {X} hx l =
      let hs = sub-whole hk hx l (omega arith) in
      let hy = add-whole hp hx (omega arith) in
      let hn = max-whole hb hy in
      let hr = sub-whole hn hb (omega arith) (omega arith) in
      record {
        stack = hs;
        round = hy;
        bet = hn;
        rise = hr;
        least = max-whole hm hr;
        rose = lt-whole hb hn ∙ ltb-same B (max B (P + X)) B (P + X) (λ h. omega arith) (λ h. omega arith);
        empty = near_zero_lem hs ∙ eqb_same (K - X) 0 X K (λ e. omega arith) (λ e. omega arith);
      }

  -- the rule's payment
  pub accepted : (a : Float) (n : Amount) → Means a n → (x : Float) → bet_size a (facing p k b m) ≡ Ok x → (X : ℕ) × (rule_of n P K B M ≡ pays X) × Is x X
  accepted a n h x e = pays_too (subst (λ (s : Result Float Refusal). Same s (rule_of n P K B M)) e (bet-is hp hk hb hm fit fits a n h))
