-- R14.2: what a function promises allows one result only. The statement, said once for every function, and
-- the one law that shows it. Each crate's Promises.antt has a line for each of its public functions. Assumes nothing.
use mathlib.Core.Path.{◌≡◌, sym, ◌∙◌}
use contract.Lifetimes.{Lfts}
use denote.Triple.Entry.{Args, Res}
use denote.Triple.Clauses.{Ended, AtExit, Lasts, at_exit}

-- T is a function's signature as the checker writes it.
module _ (T : Ended) where
  abbrev pub Promise : Type 1
  Promise = (κs : Lfts T.signature.lifetimes) → Args T.signature κs → Res T.signature κs → AtExit T κs → Type 0

  -- the result, and for each parameter what is left of it: a list where it is lent by `&mut`, else nothing
  abbrev pub Outcome : (κs : Lfts T.signature.lifetimes) → Args T.signature κs → Type 0
  Outcome κs a = Res T.signature κs × Lasts T κs a

  abbrev pub Allowed : Promise → (κs : Lfts T.signature.lifetimes) (a : Args T.signature κs) → Outcome κs a → Type 0
  Allowed P κs a x = P κs a x.0 (at_exit T κs a x.1)

  -- P is what a caller learns from the function's own `ensures`, which the checker writes as `Learnt`
  abbrev pub OneResult : Promise → Type 0
  OneResult P = (κs : Lfts T.signature.lifetimes) (a : Args T.signature κs) (x y : Outcome κs a) → Allowed P κs a x → Allowed P κs a y → x ≡ y

-- ---- the law
pub same : {A : Type 0} {x y d : A} → x ≡ d → y ≡ d → x ≡ y
same p q = p ∙ sym q

-- ---- the same of an outcome, which is taken part by part: the result, then the parameters in their order
infixr 20 ◌and◌
module _ {A P Q : Type 0} {x y : A} where
  -- a part that the next clause gives, and what follows it
  pub ◌and◌ : {B R S : Type 0} {v w : B} → (P → Q → x ≡ y) → (R → S → v ≡ w) → P × R → Q × S → ◌≡◌ {A = A × B} (x, v) (y, w)
  ◌and◌ s t p q i = (s p.0 q.0 i, t p.1 q.1 i)

  -- the last part that a clause gives: nothing is left of the parameters after it
  pub only : {B : Type 0} {b : B} → (P → Q → x ≡ y) → P → Q → ◌≡◌ {A = A × B} (x, b) (y, b)
  only {b = b} s p q i = (s p q i, b)

  -- a parameter of which nothing is left
  pub past : {B : Type 0} {b : B} → (P → Q → x ≡ y) → P → Q → ◌≡◌ {A = B × A} (b, x) (b, y)
  past {b = b} s p q i = (b, s p q i)

  -- a clause beside which another says something of the inputs alone
  pub first : {R S : Type 0} → (P → Q → x ≡ y) → P × R → Q × S → x ≡ y
  first s p q = s p.0 q.0
