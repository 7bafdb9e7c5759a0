-- Lines laid one by one on a tape are the lines that it holds, over its front. Assumes nothing.
use Prim.Native.Nat.{ℕ, suc, ◌+◌, ◌-◌, ◌≤◌, ◌<◌}
use native.Mathlib.Omega.{arith}
use mathlib.Core.Path.{◌≡◌, refl, sym, ap, ◌∙◌}
use mathlib.Core.Logic.{⊎_elim}
use mathlib.Core.Bool.{true, false}
use mathlib.Core.List.{List, [], ◌∷◌, ◌++◌, append_assoc}
use borrow.Author.Tests.{lt-ltb, le-ltb, le-leb, lt-leb}
use lib.Dec.{leb}
use lib.ListN.{length, take, drop, length-append, length-drop, length-map}
use lib.Seq.{take-append_seam, drop-append-add, drop-drop}
use Rattle.commons.proofs.Order.{lt_or_le, is-leb}
use Rattle.script.specs.declared.line.Words.{Words}
use Rattle.journal.specs.Lines.{line_words, tape_of}
use Rattle.journal.specs.Tape.{line_ok, no_room, put_line, tape_after}
use Rattle.console.specs.Parts.{over}
use Rattle.recorder.specs.Entries.{line_of, entries_of, held, is_held}
use Rattle.recorder.specs.Laying.{filled, after_put, Taped, taped, laid_line, laid_all}
use Rattle.recorder.proofs.LawsHands.{Each, none, more}

-- a line that the journal takes
abbrev pub Kept : Words → Type 0
Kept w = line_ok w.letter (take w.count w.numbers) ≡ true

-- once a line found no room, nothing more is laid
laid_none : (ws : List Words) (n : ℕ) (t : List ℕ) → laid_all (taped (filled n false) t) ws ≡ taped (filled n false) t
unfolding laid_all laid_line
laid_none [] n t = refl
laid_none (w ∷ ws) n t = laid_none ws n t

-- ---- one line, behind so many entries
module _ (w : Words) (k : Kept w) (front rest : List ℕ) where
  abbrev ns : List ℕ
  ns = take w.count w.numbers

  abbrev words : List ℕ
  words = line_words (line_of w)

  size : length words ≡ suc (length ns)
  size = ap suc (length-map ns _)

  whole : length (front ++ rest) ≡ length front + length rest
  whole = length-append front rest

  crowded : length rest < length words → no_room (length (front ++ rest)) (length front) (length ns) ≡ true
  unfolding no_room
  crowded h = simp (le-ltb (length (front ++ rest)) (length front) (omega (arith, whole)), le-leb (length (front ++ rest) - length front) (length ns) (omega (arith, whole, size)))

  roomy : length words ≤ length rest → no_room (length (front ++ rest)) (length front) (length ns) ≡ false
  unfolding no_room
  roomy h = simp (le-ltb (length (front ++ rest)) (length front) (omega (arith, whole)), lt-leb (length (front ++ rest) - length front) (length ns) (omega (arith, whole, size)))

  full : length rest < length words → laid_line true w (taped (filled (length front) true) (front ++ rest)) ≡ taped (filled (length front) false) (front ++ rest)
  unfolding laid_line after_put put_line tape_after
  full h = simp (k, crowded h)

  laid : length words ≤ length rest → laid_line true w (taped (filled (length front) true) (front ++ rest)) ≡ taped (filled (length (front ++ words)) true) ((front ++ words) ++ drop (length words) rest)
  unfolding laid_line after_put put_line tape_after
  laid h =
      let n : length front + 1 + length ns ≡ length front + length words = omega (arith, size) in
      let a : length front + 1 + length ns ≡ length (front ++ words) = n ∙ sym (length-append front words) in
      let b : drop (length front + 1 + length ns) (front ++ rest) ≡ drop (length words) rest = ap (λ (j : ℕ). drop j (front ++ rest)) n ∙ drop-append-add front rest (length words) in
      simp (k, roomy h) (λ i. taped (filled (a i) true) ((take-append_seam front rest i ++ words) ++ b i))

-- ---- all of them
abbrev held_on : List ℕ → List ℕ → List Words → Taped
held_on front rest ws = taped (filled (length front + length (entries_of (held (length rest) ws))) (is_held (length rest) ws)) (front ++ over (entries_of (held (length rest) ws)) rest)

over-more : (xs ys d : List ℕ) → xs ++ over ys (drop (length xs) d) ≡ over (xs ++ ys) d
over-more xs ys d = sym (append_assoc xs ys _) ∙ ap (λ (l : List ℕ). (xs ++ ys) ++ l) (drop-drop (length ys) (length xs) d ∙ ap (λ (j : ℕ). drop j d) (sym (length-append xs ys)))

-- none is held
nothing-held : (front rest : List ℕ) → taped (filled (length front) true) (front ++ rest) ≡ held_on front rest []
unfolding held is_held tape_of
nothing-held front rest =
    let a : length front ≡ length front + 0 = omega arith in
    let b : true ≡ leb 0 (length rest) = sym (le-leb 0 (length rest) (omega arith)) in
    λ i. taped (filled (a i) (b i)) (front ++ rest)

module _ (w : Words) (ws : List Words) (front rest : List ℕ) where
  abbrev own : List ℕ
  own = line_words (line_of w)

  long : length (entries_of (w ∷ ws)) ≡ length own + length (entries_of ws)
  unfolding tape_of
  long = length-append own (entries_of ws)

  first-full : length rest < length own → taped (filled (length front) false) (front ++ rest) ≡ held_on front rest (w ∷ ws)
  unfolding held is_held tape_of
  first-full h =
      let a : length front ≡ length front + 0 = omega arith in
      let b : false ≡ leb (length (entries_of (w ∷ ws))) (length rest) = sym (lt-leb (length (entries_of (w ∷ ws))) (length rest) (omega (arith, long))) in
      rw (lt-ltb (length rest) (length own) h) (λ i. taped (filled (a i) (b i)) (front ++ rest))

  first-held : length own ≤ length rest → held_on (front ++ own) (drop (length own) rest) ws ≡ held_on front rest (w ∷ ws)
  unfolding held is_held tape_of
  first-held h =
      let xs = entries_of (held (length rest - length own) ws) in
      let a : length (front ++ own) + length (entries_of (held (length rest - length own) ws)) ≡ length front + length (own ++ entries_of (held (length rest - length own) ws)) =
      omega (arith, length-append front own, length-append own (entries_of (held (length rest - length own) ws))) in
      let b : leb (length (entries_of ws)) (length rest - length own) ≡ leb (length (entries_of (w ∷ ws))) (length rest) =
      is-leb (leb (length (entries_of ws)) (length rest - length own)) (length (entries_of (w ∷ ws))) (length rest)
      (λ l. le-leb (length (entries_of ws)) (length rest - length own) (omega (arith, long))) (λ l. lt-leb (length (entries_of ws)) (length rest - length own) (omega (arith, long))) in
      rw (length-drop (length own) rest, le-ltb (length rest) (length own) h)
      (λ i. taped (filled (a i) (b i)) ((append_assoc front own (over xs (drop (length own) rest)) ∙ ap (λ (l : List ℕ). front ++ l) (over-more own xs rest)) i))

held_all : (ws : List Words) (front rest : List ℕ) → Each Kept ws → laid_all (taped (filled (length front) true) (front ++ rest)) ws ≡ held_on front rest ws
unfolding laid_all
held_all [] front rest none = nothing-held front rest
held_all (w ∷ ws) front rest (more k ks) =
    let own : List ℕ = line_words (line_of w) in
    ⊎_elim (λ h. ap (λ (x : Taped). laid_all x ws) (full w k front rest h) ∙ laid_none ws (length front) (front ++ rest) ∙ first-full w ws front rest h)
    (λ h. ap (λ (x : Taped). laid_all x ws) (laid w k front rest h) ∙ held_all ws (front ++ own) (drop (length own) rest) ks ∙ first-held w ws front rest h)
    (lt_or_le (length rest) (length own))

-- from an empty tape on
pub all_held : (ws : List Words) (t : List ℕ) → Each Kept ws → laid_all (taped (filled 0 true) t) ws ≡ taped (filled (length (entries_of (held (length t) ws))) (is_held (length t) ws)) (over (entries_of (held (length t) ws)) t)
all_held ws t ks =
    let e : 0 + length (entries_of (held (length t) ws)) ≡ length (entries_of (held (length t) ws)) = omega arith in
    held_all ws [] t ks ∙ (λ i. taped (filled (e i) (is_held (length t) ws)) (over (entries_of (held (length t) ws)) t))
