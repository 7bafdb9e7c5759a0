-- Laws of an order of refusals: rows one after another, which rows failed where nothing is refused, and what an answer made by a verdict has of it.
-- Assumes nothing.
use Prim.Native.Nat.{ℕ, zero, suc}
use mathlib.Core.Path.{◌≡◌, refl, ap, ◌∙◌}
use mathlib.Core.Bool.{Bool, true, false}
use mathlib.Core.List.{List, [], ◌∷◌, ◌++◌}
use Rattle.refusals.specs.declared.Refusal.{Refusal}
use Rattle.std.specs.Prelude.{Ok, Err}
use Rattle.refusals.specs.Number.{number_of}
use Rattle.refusals.specs.Rows.{Row, Verdict, give_if, judge_then, judge, answer, verdict_number}
use Rattle.refusals.proofs.Numbers.{numbered}

-- ---- rows one after another
pub judge-joined : (rs ss : List Row) → judge (rs ++ ss) ≡ judge_then rs (judge ss)
judge-joined [] ss = refl
judge-joined (r ∷ rs) ss = ap (give_if r.holds r.refusal) (judge-joined rs ss)

first_or : (t : Bool) (r : Refusal) (v w : Verdict) → give_if t r (answer w Err v) ≡ answer w Err (give_if t r v)
first_or true r v w = refl
first_or false r v w = refl

pub then_answer : (rs : List Row) (w : Verdict) → judge_then rs w ≡ answer w Err (judge rs)
then_answer [] w = refl
then_answer (r ∷ rs) w = ap (give_if r.holds r.refusal) (then_answer rs w) ∙ first_or r.holds r.refusal (judge rs) w

-- ---- where nothing is refused each test failed, by its place in the rows
abbrev pub holds_at : List Row → ℕ → Bool
holds_at [] k = false
holds_at (r ∷ rs) zero = r.holds
holds_at (r ∷ rs) (suc k) = holds_at rs k

passed : (t : Bool) (r : Refusal) (v : Verdict) → give_if t r v ≡ Ok tt → (t ≡ false) × (v ≡ Ok tt)
passed true r v e = absurd (numbered r (ap verdict_number e))
passed false r v e = (refl, e)

pub fails-at : (rs : List Row) → judge rs ≡ Ok tt → (k : ℕ) → holds_at rs k ≡ false
fails-at [] e k = refl
fails-at (r ∷ rs) e zero = (passed r.holds r.refusal (judge rs) e).0
fails-at (r ∷ rs) e (suc k) = fails-at rs (passed r.holds r.refusal (judge rs) e).1 k

-- and of rows one after another, the later ones refuse nothing either
pub later-stands : (rs ss : List Row) → judge (rs ++ ss) ≡ Ok tt → judge ss ≡ Ok tt
later-stands [] ss e = e
later-stands (r ∷ rs) ss e = later-stands rs ss (passed r.holds r.refusal (judge (rs ++ ss)) e).1

-- nor the earlier ones
pub earlier-stands : (rs ss : List Row) → judge (rs ++ ss) ≡ Ok tt → judge rs ≡ Ok tt
earlier-stands [] ss e = refl
earlier-stands (r ∷ rs) ss e =
    let p = passed r.holds r.refusal (judge (rs ++ ss)) e in
    (λ i. give_if (p.0 i) r.refusal (judge rs)) ∙ earlier-stands rs ss p.1

-- a verdict whose number is 0 stands
pub stands-at-zero : (v : Verdict) → verdict_number v ≡ 0 → v ≡ Ok tt
stands-at-zero (Ok _) e = refl
stands-at-zero (Err r) e = absurd (numbered r e)

-- ---- answers by a verdict
module _ {A : Type 0} (a : A) (f : Refusal → A) where
  -- the number of an answer is the verdict's, if 0 is the number of what was asked and each refusal has its own
  pub answer-number : (number : A → ℕ) → number a ≡ 0 → ((r : Refusal) → number (f r) ≡ number_of r) → (v : Verdict) → number (answer a f v) ≡ verdict_number v
  answer-number number z n (Ok _) = z
  answer-number number z n (Err r) = n r

  -- what holds of both holds of the answer; where it stands, that may be put to use
  pub answer-of : (P : A → Type 0) (v : Verdict) → (v ≡ Ok tt → P a) → ((r : Refusal) → P (f r)) → P (answer a f v)
  answer-of P (Ok _) p q = p refl
  answer-of P (Err r) p q = q r
