-- Two keys that test as the same are one key, and the order of keys is strict and total: of two keys one comes before the other, or they are one key.
-- The parts may be any numbers. Assumes nothing.
use Prim.Native.Nat.{ℕ, ◌<◌}
use native.Mathlib.Nat.{eq-or-lt_of_le}
use native.Mathlib.Omega.{arith}
use mathlib.Core.Path.{◌≡◌, refl, sym}
use mathlib.Core.Logic.{⊎_elim, ◌⊎◌, inl, inr}
use mathlib.Core.Bool.{true, false, ◌&&◌, ◌||◌}
use lib.Dec.{eqb, ltb}
use borrow.Author.Tests.{ltb-true, eqb-true, lt-ltb, le-ltb, eq-eqb}
use Rattle.commons.proofs.Bools.{and_both, or_cases, never, turned}
use Rattle.commons.proofs.Order.{lt_or_le}
use Rattle.keys.specs.declared.HandKey.{HandKey}
use Rattle.keys.specs.Keys.{key_of, no_key, is_key, is_good, is_same, is_before}

-- ---- beside year 0 a good key has nothing: it is no key
pub only_none : (k : HandKey) → is_good k ≡ true → is_key k ≡ false → k ≡ no_key
only_none k g n =
    let p = and_both (eqb k.code 0) (eqb k.hand 0) (rw n at g) in
    let year = eqb-true k.year 0 (turned (eqb k.year 0) false n) in
    let code = eqb-true k.code 0 p.0 in
    let hand = eqb-true k.hand 0 p.1 in
    λ i. key_of (code i) (year i) (hand i)

-- ---- the same
pub same-is : (a b : HandKey) → is_same a b ≡ true → a ≡ b
same-is a b e =
    let p = and_both (eqb a.code b.code) _ e in
    let q = and_both (eqb a.year b.year) _ p.1 in
    let code = eqb-true a.code b.code p.0 in
    let year = eqb-true a.year b.year q.0 in
    let hand = eqb-true a.hand b.hand q.1 in
    λ i. key_of (code i) (year i) (hand i)

pub same_self : (a : HandKey) → is_same a a ≡ true
same_self a = simp (eq-eqb a.code a.code refl, eq-eqb a.year a.year refl, eq-eqb a.hand a.hand refl)

-- ---- before: the first part in which they differ decides
data Before (a b : HandKey) : Type 0 where
  by_code : a.code < b.code → Before a b
  by-year : a.code ≡ b.code → a.year < b.year → Before a b
  by_hand : a.code ≡ b.code → a.year ≡ b.year → a.hand < b.hand → Before a b

told : (a b : HandKey) → is_before a b ≡ true → Before a b
told a b e = ⊎_elim (λ c. by_code (ltb-true _ _ c)) (λ r. on (and_both (eqb a.code b.code) _ r)) (or_cases (ltb a.code b.code) _ e)
  where
    last : a.code ≡ b.code → (eqb a.year b.year ≡ true) × (ltb a.hand b.hand ≡ true) → Before a b
    last c p = by_hand c (eqb-true _ _ p.0) (ltb-true _ _ p.1)

    on : (eqb a.code b.code ≡ true) × ((ltb a.year b.year || (eqb a.year b.year && ltb a.hand b.hand)) ≡ true) → Before a b
    on p =
        let c = eqb-true a.code b.code p.0 in
        ⊎_elim (λ y. by-year c (ltb-true _ _ y)) (λ r. last c (and_both (eqb a.year b.year) _ r)) (or_cases (ltb a.year b.year) _ p.1)

tells : (a b : HandKey) → Before a b → is_before a b ≡ true
tells a b (by_code h) = simp (lt-ltb a.code b.code h)
tells a b (by-year c h) = simp (le-ltb a.code b.code (omega arith), eq-eqb a.code b.code c, lt-ltb a.year b.year h)
tells a b (by_hand c y h) =
    simp (le-ltb a.code b.code (omega arith), eq-eqb a.code b.code c, le-ltb a.year b.year (omega arith), eq-eqb a.year b.year y, lt-ltb a.hand b.hand h)

not_self : (a : HandKey) → Before a a → ⊥
not_self a (by_code h) = omega arith
not_self a (by-year c h) = omega arith
not_self a (by_hand c y h) = omega arith

on_to : (a b c : HandKey) → Before a b → Before b c → Before a c
on_to a b c (by_code h) (by_code k) = by_code (omega arith)
on_to a b c (by_code h) (by-year e k) = by_code (omega arith)
on_to a b c (by_code h) (by_hand e y k) = by_code (omega arith)
on_to a b c (by-year d h) (by_code k) = by_code (omega arith)
on_to a b c (by-year d h) (by-year e k) = by-year (omega arith) (omega arith)
on_to a b c (by-year d h) (by_hand e y k) = by-year (omega arith) (omega arith)
on_to a b c (by_hand d x h) (by_code k) = by_code (omega arith)
on_to a b c (by_hand d x h) (by-year e k) = by-year (omega arith) (omega arith)
on_to a b c (by_hand d x h) (by_hand e y k) = by_hand (omega arith) (omega arith) (omega arith)

-- ---- strict: none is before itself, and what is before goes on
pub before-not_self : (a : HandKey) → is_before a a ≡ false
before-not_self a = never (is_before a a) (λ e. not_self a (told a a e))

pub before_on : (a b c : HandKey) → is_before a b ≡ true → is_before b c ≡ true → is_before a c ≡ true
before_on a b c e f = tells a c (on_to a b c (told a b e) (told b c f))

pub before-not-back : (a b : HandKey) → is_before a b ≡ true → is_before b a ≡ false
before-not-back a b e = never (is_before b a) (λ f. not_self a (on_to a b a (told a b e) (told b a f)))

-- ---- total
three : (m n : ℕ) → (m < n) ⊎ ((m ≡ n) ⊎ (n < m))
three m n = ⊎_elim inl (λ h. inr (⊎_elim (λ e. inl (sym e)) inr (eq-or-lt_of_le h))) (lt_or_le m n)

pub one_of_three : (a b : HandKey) → (is_before a b ≡ true) ⊎ ((a ≡ b) ⊎ (is_before b a ≡ true))
one_of_three a b = ⊎_elim (λ h. inl (tells a b (by_code h))) (λ s. ⊎_elim by_years (λ h. inr (inr (tells b a (by_code h)))) s) (three a.code b.code)
  where
    by-hands : a.code ≡ b.code → a.year ≡ b.year → (is_before a b ≡ true) ⊎ ((a ≡ b) ⊎ (is_before b a ≡ true))
    by-hands c y =
        ⊎_elim (λ h. inl (tells a b (by_hand c y h))) (λ s. inr (⊎_elim (λ e. inl (λ i. key_of (c i) (y i) (e i))) (λ h. inr (tells b a (by_hand (sym c) (sym y) h))) s))
        (three a.hand b.hand)

    by_years : a.code ≡ b.code → (is_before a b ≡ true) ⊎ ((a ≡ b) ⊎ (is_before b a ≡ true))
    by_years c =
        ⊎_elim (λ h. inl (tells a b (by-year c h))) (λ s. ⊎_elim (λ y. by-hands c y) (λ h. inr (inr (tells b a (by-year (sym c) h)))) s)
        (three a.year b.year)
