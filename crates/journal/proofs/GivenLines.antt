-- The promises of `line_at`, asked from entry 0 on and then each time from the place behind the line that was read: it comes to an end for any bytes
-- (`given-ends`), after no more lines than there are entries (`given-most`); and of bytes that read as a hand it gives the lines of the hand, each once and
-- in order (`given-all`, `given-hand`). Assumes nothing.
use Prim.Native.Nat.{ℕ, zero, suc, ◌+◌, ◌-◌, ◌≤◌, ◌<◌}
use native.Mathlib.Omega.{arith}
use mathlib.Core.Path.{◌≡◌, refl, sym, ap, ◌∙◌, subst}
use mathlib.Core.Logic.{⊎_elim}
use mathlib.Core.List.{List, [], ◌∷◌, map}
use lib.ListN.{length}
use Rattle.commons.proofs.Order.{lt_or_le}
use Rattle.script.specs.declared.line.Words.{Words}
use Rattle.script.specs.Words.{no_words}
use Rattle.journal.specs.declared.hand.HandHead.{HandHead}
use Rattle.std.specs.Prelude.{Ok}
use Rattle.journal.specs.Lines.{leading, lines_of}
use Rattle.journal.specs.Hand.{words_of, reads}
use Rattle.journal.specs.Reading.{as_played, count_given, rest_from, line_from, line_read}
use Rattle.journal.proofs.LawsReading.{rest-next, given-long, leading-most, at-end}
use Rattle.journal.proofs.LawsLeft.{At, left, count-is, at_first, left-first, left-none, at_next, left-next}

-- the lines that are given from a place on: none at the end of the entries, or the line there and what is given from the place behind it
pub data Given (b : List ℕ) : ℕ → List Words → Type 0 where
  ends : {at : ℕ} → count_given b ≤ at → Given b at []
  line : {at : ℕ} {ws : List Words} → at < count_given b → Given b (line_read b at).next ws → Given b at ((line_read b at).words ∷ ws)

-- ---- any bytes
module _ (b : List ℕ) where
  -- at the end there is no line, and the place stays
  pub stays : (at : ℕ) → count_given b ≤ at → line_read b at ≡ record { words = no_words; next = at }
  stays at h = sym (at-end b at (count_given b) refl h)

  -- before the end the place goes up, and never past the end
  pub moves : (at : ℕ) → at < count_given b → (at < (line_read b at).next) × ((line_read b at).next ≤ count_given b)
  unfolding line_read line_from
  moves at h =
      let n : (line_read b at).next ≡ at + 1 + length (leading (rest_from b (at + 1) (count_given b))) = ap (λ (l : List ℕ). (line_from at l).next) (rest-next b (count_given b) at h) in
      let m = leading-most (rest_from b (at + 1) (count_given b)) in
      let g = given-long b (count_given b - (at + 1)) (at + 1) in
      (rw n (omega arith), rw n (omega arith))

  -- so the place stays just at the end
  pub stays-only : (at : ℕ) → (line_read b at).next ≡ at → count_given b ≤ at
  stays-only at e = ⊎_elim (λ (l : at < count_given b). absurd (omega (arith, (moves at l).0, e))) (λ (l : count_given b ≤ at). l) (lt_or_le at (count_given b))

  given_in : (n at : ℕ) → count_given b - at ≤ n → (ws : List Words) × Given b at ws
  given_in zero at h = ([], ends {at = at} (omega arith))
  given_in (suc n) at h =
      ⊎_elim
      (λ (l : at < count_given b). let r = given_in n (line_read b at).next (omega (arith, (moves at l).0)) in ((line_read b at).words ∷ r.0, line l r.1))
      (λ (l : count_given b ≤ at). ([], ends l))
      (lt_or_le at (count_given b))

  -- the asking comes to an end
  pub given-ends : (at : ℕ) → (ws : List Words) × Given b at ws
  given-ends at = given_in (count_given b - at) at (omega arith)

  pub given-most : {at : ℕ} {ws : List Words} → Given b at ws → length ws ≤ count_given b - at
  given-most (ends h) = omega arith
  given-most {at} (line h g) = omega (arith, given-most g, (moves at h).0)

-- ---- bytes that read as a hand
module _ (b : List ℕ) (h : HandHead) (e : reads b ≡ Ok h) where
  given_so : {at : ℕ} {ws : List Words} → At b h.entries at → Given b at ws → ws ≡ left b h.entries at
  given_so {at} a (ends l) = sym (left-none b h e at (omega (arith, count-is b h e)))
  given_so {at} a (line l g) =
      let k : at < h.entries = omega (arith, count-is b h e) in
      ap (λ (ws : List Words). (line_read b at).words ∷ ws) (given_so (at_next b h e at k a) g) ∙ sym (left-next b h e at k a)

  -- what is given is the lines of the hand
  pub given-all : (ws : List Words) → Given b 0 ws → ws ≡ map as_played (lines_of (words_of b))
  given-all ws g = given_so (at_first b h e) g ∙ left-first b h e

  -- and they are given
  pub given-hand : Given b 0 (map as_played (lines_of (words_of b)))
  given-hand = let g = given-ends b 0 in subst (Given b 0) (given-all g.0 g.1) g.1
