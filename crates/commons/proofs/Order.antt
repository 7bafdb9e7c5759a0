-- Numbers in order, and tests of them that come out alike because the facts behind them do. Assumes nothing.
use Prim.Native.Nat.{ℕ, suc, ◌≤◌, ◌<◌}
use native.Mathlib.Nat.{eq-or-lt_of_le, le_of_suc-le-suc, not-le_of_lt}
use native.Mathlib.Omega.{arith}
use mathlib.Core.Path.{◌≡◌, sym, ◌∙◌}
use mathlib.Core.Logic.{⊎_elim, ◌⊎◌, inl, inr}
use mathlib.Core.Bool.{Bool, true, false, ◌||◌}
use lib.Dec.{ltb, leb, eqb}
use borrow.Author.Tests.{lt-ltb, le-ltb, le-leb, lt-leb, eq-eqb, ne_eqb, eqb-true, eqb-false, ltb-true, ltb-false}
use Rattle.commons.proofs.Bools.{either}

pub lt_or_le : (a b : ℕ) → (a < b) ⊎ (b ≤ a)
lt_or_le a b = ⊎_elim (λ t. inl (ltb-true a b t)) (λ f. inr (ltb-false a b f)) (either (ltb a b))

-- a place below suc n is n, or below n
pub last_or : {i n : ℕ} → i < suc n → (i ≡ n) ⊎ (i < n)
last_or h = eq-or-lt_of_le (le_of_suc-le-suc h)

-- a test that holds exactly where a < b, where a ≤ b, where a is b
pub is-ltb : (t : Bool) (a b : ℕ) → (a < b → t ≡ true) → (b ≤ a → t ≡ false) → t ≡ ltb a b
is-ltb t a b p q = ⊎_elim (λ l. p l ∙ sym (lt-ltb a b l)) (λ g. q g ∙ sym (le-ltb a b g)) (lt_or_le a b)

pub is-leb : (t : Bool) (a b : ℕ) → (a ≤ b → t ≡ true) → (b < a → t ≡ false) → t ≡ leb a b
is-leb t a b p q = ⊎_elim (λ l. q l ∙ sym (lt-leb a b l)) (λ g. p g ∙ sym (le-leb a b g)) (lt_or_le b a)

pub is-eqb : (t : Bool) (a b : ℕ) → (a ≡ b → t ≡ true) → ((a ≡ b → ⊥) → t ≡ false) → t ≡ eqb a b
is-eqb t a b p q = ⊎_elim (λ e. p (eqb-true a b e) ∙ sym e) (λ f. q (eqb-false a b f) ∙ sym f) (either (eqb a b))

pub ltb-same : (a b x y : ℕ) → (b ≤ a → y ≤ x) → (y ≤ x → b ≤ a) → ltb a b ≡ ltb x y
ltb-same a b x y p q = sym (is-ltb (ltb x y) a b (λ l. ⊎_elim (λ k. lt-ltb x y k) (λ g. absurd (not-le_of_lt l (q g))) (lt_or_le x y)) (λ g. le-ltb x y (p g)))

pub eqb_same : (a b x y : ℕ) → (a ≡ b → x ≡ y) → (x ≡ y → a ≡ b) → eqb a b ≡ eqb x y
eqb_same a b x y p q = is-eqb (eqb a b) x y (λ e. eq-eqb a b (q e)) (λ n. ne_eqb a b (λ e. n (p e)))

pub lt_or_eq : (a b : ℕ) → (ltb a b || eqb a b) ≡ leb a b
lt_or_eq a b =
    is-leb (ltb a b || eqb a b) a b
    (λ h. ⊎_elim (λ e. rw (le-ltb a b (omega arith)) (eq-eqb a b e)) (λ l. rw (lt-ltb a b l)) (eq-or-lt_of_le h))
    (λ h. rw (le-ltb a b (omega arith)) (ne_eqb a b (λ e. omega arith)))
