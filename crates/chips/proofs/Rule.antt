-- What a payment that the rule accepts is: no more than the stack, and short of the bet or of the smallest raise only where it is the whole stack.
-- Assumes nothing.
use Rattle.std.proofs.Common.{◌≡◌, ℕ, ◌+◌, ◌-◌, ◌≤◌, Bool, true, false, not, ◌&&◌, eqb, ltb, ◌⊎◌, refl, subst, inl, inr, ⊎_elim, arith, ltb-false, eqb-true}
use borrow.Author.Tests.{not-false}
use Rattle.std.specs.Prelude.{Ok, Err}
use Rattle.refusals.specs.Rows.{judge, answer, Verdict}
use Rattle.refusals.proofs.Rows.{fails-at}
use Rattle.chips.specs.Rule.{Amount, chips, endless, pays, refused, pay_of, rule_rows, rule_of}

pub record Allowed (p k b m x : ℕ) : Type 0 where
  pub enough : x ≤ k
  pub calls : (x ≡ k) ⊎ (b ≤ p + x)
  pub raises : (x ≡ k) ⊎ ((p + x ≤ b) ⊎ (m ≤ p + x - b))

-- a ruling that pays stands
stands : (y : ℕ) (v : Verdict) (x : ℕ) → answer (pays y) refused v ≡ pays x → (v ≡ Ok tt) × (y ≡ x)
stands y (Ok _) x e = (refl, cc)
stands y (Err r) x e = let z : ◌≡◌ {A = ℕ} 0 1 = cc in absurd (omega arith)

fails : (s t : Bool) → (s && t) ≡ false → (s ≡ false) ⊎ (t ≡ false)
fails true t e = inr e
fails false t e = inl refl

pub pay-le : (a : Amount) (p k : ℕ) → pay_of a p k ≤ k
pay-le (chips a) p k = omega arith
pay-le endless p k = omega arith

all_in : (x k : ℕ) → not (eqb x k) ≡ false → x ≡ k
all_in x k e = eqb-true x k (not-false (eqb x k) e)

pub rule_allows : (a : Amount) (p k b m x : ℕ) → rule_of a p k b m ≡ pays x → Allowed p k b m x
unfolding rule_of
rule_allows a p k b m x e =
    let y = pay_of a p k in
    let rows = rule_rows a p k b m in
    let ruling = stands y (judge rows) x e in
    let fail = fails-at rows ruling.0 in
    subst (λ (n : ℕ). Allowed p k b m n) ruling.1
    (record {
      enough = pay-le a p k;
      calls = ⊎_elim (λ f. inr (ltb-false (p + y) b f)) (λ f. inl (all_in y k f)) (fails _ _ (fail 1));
      raises = ⊎_elim (λ f. inr (inl (short y f))) (λ g. ⊎_elim (λ f. inl (all_in y k f)) (λ f. inr (inr (ltb-false _ _ f))) (fails _ _ g)) (fails _ _ (fail 2));
    })
  where
    short : (y : ℕ) → ltb 0 (p + y - b) ≡ false → p + y ≤ b
    short y f = omega (arith, ltb-false 0 (p + y - b) f)
