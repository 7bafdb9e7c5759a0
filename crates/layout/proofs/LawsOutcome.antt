-- An outcome laid into the lists: what is accepted stands there, and a refusal leaves what stood. Assumes nothing.
use Prim.Native.Nat.{ℕ}
use mathlib.Core.Path.{◌≡◌, sym, ◌∙◌}
use mathlib.Core.Logic.{◌≢◌}
use mathlib.Core.Bool.{cond}
use mathlib.Core.List.{List}
use lib.ListN.{length}
use lib.Ieee.{Float}
use borrow.Author.Tests.{eq-eqb, ne_eqb}
use Rattle.layout.specs.Laid.{floats_laid, numbers_laid}
use Rattle.layout.specs.Outcome.{Outcome, floats_after, numbers_after, StandsAfter}
use Rattle.layout.proofs.LawsBack.{Laid}

module _ (fs : List Float) (ns : List ℕ) (o : Outcome) where
  abbrev pub After : ℕ → List Float → List ℕ → Type 0
  After r fs' ns' =
      (r ≡ o.number)
      × ((fs' ≡ floats_after (length ns) o fs) × ((ns' ≡ numbers_after (length fs) o ns) × StandsAfter (length fs) (length ns) o fs' ns'))

  pub accepted-after : (fs' : List Float) (ns' : List ℕ) → o.number ≡ 0 → Laid o.table o.paid o.passed fs ns fs' ns' → After 0 fs' ns'
  accepted-after fs' ns' z h =
      let e = sym (eq-eqb o.number 0 z) in (
        sym z,
        (
          h.0 ∙ (λ i. cond (e i) (floats_laid (length ns) o.table o.paid fs) fs),
          (h.1.0 ∙ (λ i. cond (e i) (numbers_laid (length fs) o.table o.passed ns) ns), λ q. h.1.1),
        ),
      )

  pub refused-after : (r : ℕ) → r ≡ o.number → o.number ≢ 0 → After r fs ns
  refused-after r n z =
      let e = sym (ne_eqb o.number 0 z) in (
        n,
        (
          (λ i. cond (e i) (floats_laid (length ns) o.table o.paid fs) fs),
          ((λ i. cond (e i) (numbers_laid (length fs) o.table o.passed ns) ns), λ q. absurd (z q)),
        ),
      )
