-- R10.5: on whole chips up to 8,000 the bet is the rule on numbers, without slack: the same refusal, or the same payment.
-- Up to 8,000 each of its tests is the rule's; an amount above all chips is all in, where the tests with e do not count. The bounds are those that good order gives.
-- Assumes nothing.
use Rattle.std.proofs.Common.{◌≡◌, ℕ, ◌+◌, ◌-◌, ◌≤◌, Bool, true, false, not, ◌&&◌, eqb, ltb, refl, ◌∙◌, inl, inr, ⊎_elim, arith, ltb-false, le-ltb, eq-eqb}
use mathlib.Core.Bool.{and-false}
use lib.Ieee.{Float, binary32, add, lt}
use Rattle.std.specs.Prelude.{Result, Ok, Err}
use Rattle.refusals.specs.declared.Refusal.{Refusal}
use Rattle.refusals.specs.Rows.{give_if, judge, answer, Verdict}
use Rattle.bets.specs.Bet.{facing, invalid_size, slack_of, is_all_in, raise_by, payment_rows, bet_size}
use Rattle.commons.proofs.Order.{lt_or_le, eqb_same}
use Rattle.chips.specs.Whole.{most, is_whole, chips_in}
use Rattle.chips.specs.Rule.{Amount, chips, endless, Ruling, pays, refused, lacks, pay_of, pay_rows, rule_of}
use Rattle.chips.proofs.Value.{Is}
use Rattle.chips.proofs.Add.{add-whole, sub-whole}
use Rattle.chips.proofs.Helpers.{one-is, max-whole, min-whole, abs-whole, raise-whole, distance-whole}
use Rattle.chips.proofs.Tolerance.{Slack, tol_slack, slack_lt, slack_above, slack_zero}
use Rattle.chips.proofs.Whole.{whole_is, chips-le}
use Rattle.chips.proofs.Amounts.{Means, not-invalid, Large, large-abs, large-calls, large-pays, slack_non_neg}

-- the same refusal, or the same payment as a whole number
pub data Same : Result Float Refusal → Ruling → Type 0 where
  both-pay : {x : Float} {n : ℕ} → Is x n → Same (Ok x) (pays n)
  both_refuse : {r : Refusal} → Same (Err r) (refused r)

-- two verdicts that give the same
abbrev Alike : Float → ℕ → Verdict → Verdict → Type 0
Alike x n u v = Same (answer (Ok x) Err u) (answer (pays n) refused v)

give : (x : Float) (n : ℕ) (s t : Bool) (r : Refusal) (u v : Verdict) → s ≡ t → (t ≡ false → Alike x n u v) → Alike x n (give_if s r u) (give_if t r v)
give x n s true r u v e h = rw e both_refuse
give x n s false r u v e h = rw e (h refl)

module _ {p k b m : Float} {P K B M : ℕ} (hp : Is p P) (hk : Is k K) (hb : Is b B) (hm : Is m M) (fit : P + K ≤ most) (fits : B ≤ most) where
  -- R6.7 holds where x is k
  pub all_in_is : {x : Float} {n : ℕ} → Is x n → n ≤ K → is_all_in x k ≡ eqb n K
  all_in_is {x} {n} hx l =
      slack_zero (tol_slack (max-whole (abs-whole hk) one-is) (omega arith) (omega arith)) (distance-whole hx hk l (omega arith))
      ∙ eqb_same (K - n) 0 n K (λ e. omega arith) (λ e. omega arith)

  -- an amount above all chips is all in
  pub large-bet : (a : Float) → invalid_size a ≡ false → Large a → bet_size a (facing p k b m) ≡ Ok k
  unfolding bet_size
  large-bet a v l =
      let e = slack_of a b in
      let all : is_all_in k k ≡ true = all_in_is hk (omega arith) ∙ eq-eqb K K refl in
      rw (v, large-calls hp a e l (slack_non_neg a (large-abs a l) hb) (omega arith), large-pays hp hk a l fit, all, and-false (lt (add binary32 (add binary32 p k) e) b), and-false (lt e (raise_by (add binary32 p k) b)))

  large_rule : (n : Amount) → lacks n P ≡ false → pay_of n P K ≡ K → rule_of n P K B M ≡ pays K
  unfolding rule_of
  large_rule n f e = rw (f, e, eq-eqb K K refl, and-false (ltb (P + K) B), and-false (ltb 0 (P + K - B)))

  large_is : (a : Float) (n : Amount) → Means a n → Large a → lacks n P ≡ false → pay_of n P K ≡ K → Same (bet_size a (facing p k b m)) (rule_of n P K B M)
  large_is a n h l f e = rw (large-bet a (not-invalid a n h) l, large_rule n f e) (both-pay hk)

  -- a payment of n against B and M
  sized-is : {x e : Float} {n : ℕ} → Is x n → n ≤ K → Slack e → Alike x n (judge (payment_rows x e (facing p k b m))) (judge (pay_rows n P K B M))
  sized-is {x} {e} {n} hx l s =
      let hy = add-whole hp hx (omega arith) in
      let hr = raise-whole hy hb (omega arith) (omega arith) in
      let all = all_in_is hx l in
      let call = slack_lt hy s hb (omega arith) in
      let small = slack_lt hr s hm (omega arith) in
      give _ _ _ _ _ _ _ (λ i. call i && not (all i)) (λ _. give _ _ _ _ _ _ _ (λ i. slack_above s hr i && (not (all i) && small i)) (λ _. both-pay hx))

  -- an amount up to 8,000
  small_is : (a : Float) (A : ℕ) → Means a (chips A) → A ≤ most → Same (bet_size a (facing p k b m)) (rule_of (chips A) P K B M)
  unfolding bet_size rule_of
  small_is a A h l =
      let s : Slack (slack_of a b) = tol_slack (max-whole (max-whole (abs-whole h.0) (abs-whole hb)) one-is) (omega arith) (omega arith) in
      rw (not-invalid a (chips A) h)
      (give _ _ _ _ _ _ _ (slack_lt h.0 s hp l)
      (λ f. sized-is (min-whole hk (sub-whole h.0 hp (ltb-false A P f) (omega arith))) (omega arith) s))

  pub bet-is : (a : Float) (n : Amount) → Means a n → Same (bet_size a (facing p k b m)) (rule_of n P K B M)
  bet-is a endless h = large_is a endless h (inl h) refl refl
  bet-is a (chips A) h =
      ⊎_elim (λ l. large_is a (chips A) h (inr (A, h.0, l)) (le-ltb A P (omega arith)) (omega arith)) (λ g. small_is a A h g) (lt_or_le most A)

-- the same from the tests of whole amounts
pub whole-bet : (a p k b m : Float) (n : Amount) → Means a n → is_whole p ≡ true → is_whole k ≡ true → is_whole b ≡ true → is_whole m ≡ true
    → chips_in p + chips_in k ≤ most → Same (bet_size a (facing p k b m)) (rule_of n (chips_in p) (chips_in k) (chips_in b) (chips_in m))
whole-bet a p k b m n h wp wk wb wm fit = bet-is (whole_is p wp) (whole_is k wk) (whole_is b wb) (whole_is m wm) fit (chips-le b) a n h
