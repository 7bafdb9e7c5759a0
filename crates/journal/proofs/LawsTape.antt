-- Laws of a line that is laid behind the entries of a hand. Assumes nothing.
use Prim.Native.Nat.{ℕ, zero, suc, ◌+◌, ◌*◌, ◌-◌, ◌≤◌, ◌<◌}
use native.Mathlib.Numerals.{add-one}
use native.Mathlib.Omega.{arith}
use mathlib.Core.Path.{◌≡◌, refl, sym, ap, ◌∙◌}
use mathlib.Core.Bool.{Bool, true, false}
use mathlib.Core.List.{List, [], ◌∷◌, ◌++◌, append_assoc, append-nil}
use borrow.Author.Tests.{lt-ltb, le-ltb, le-leb, lt-leb}
use Rattle.refusals.specs.declared.JournalError.TheVariants.{BadJournal}
use lib.ListN.{length, get_or, set, take, drop, length-append, length-drop}
use lib.Seq.{set_at, set_split, drop-cons, drop-drop, take-suc, take-length, length-take-le, append_snoc}
use Rattle.journal.specs.Lines.{Line, count_ok, line_words, tape_of}
use Rattle.journal.specs.Tape.{line_given, line_ok, no_room, put_line, tape_after, numbers_put}
use Rattle.std.specs.Prelude.{Result, Ok, Err}
use Rattle.journal.specs.declared.laying.NotLaid.{NotLaid}
use Rattle.journal.specs.declared.laying.NotLaid.TheVariants.{Denied, NoRoom}
use Rattle.journal.proofs.LawsSpelt.{number_words}

module _ (l : List ℕ) (at : ℕ) (ns : List ℕ) where
  pub put-none : l ≡ numbers_put 0 l at ns
  unfolding numbers_put
  put-none = refl

  pub put_next : (i v : ℕ) (o : List ℕ) → o ≡ numbers_put i l at ns → v ≡ get_or ns i 0 * 65536 → set o (at + i) v ≡ numbers_put (i + 1) l at ns
  unfolding numbers_put
  put_next i v o e f = rw (add-one i) (rw (e, f))

words_append : (xs ys : List ℕ) → number_words (xs ++ ys) ≡ number_words xs ++ number_words ys
words_append [] ys = refl
words_append (x ∷ xs) ys = ap (λ (l : List ℕ). x * 65536 ∷ l) (words_append xs ys)

words_long : (xs : List ℕ) → length (number_words xs) ≡ length xs
words_long [] = refl
words_long (x ∷ xs) = ap suc (words_long xs)

numbers_are : (p q ns : List ℕ) (at n : ℕ) → length p ≡ at → n ≤ length ns → n ≤ length q → numbers_put n (p ++ q) at ns ≡ p ++ (number_words (take n ns) ++ drop n q)
unfolding numbers_put
numbers_are p q ns at zero e h g = refl
numbers_are p q ns at (suc n) e h g =
    let v = get_or ns n 0 * 65536 in
    let xs = number_words (take n ns) in
    let k : length (p ++ number_words (take n ns)) ≡ at + n = length-append p (number_words (take n ns)) ∙ omega (arith, words_long (take n ns), length-take-le n ns (omega arith)) in
    rw (numbers_are p q ns at n e (omega arith) (omega arith), drop-cons q n 0 (omega arith)) (
    rw (sym (append_assoc p (number_words (take n ns)) (get_or q n 0 ∷ drop (suc n) q))) (
    set_at (p ++ number_words (take n ns)) (get_or q n 0) (drop (suc n) q) (get_or ns n 0 * 65536) (at + n) k
    ∙ append_assoc p (number_words (take n ns)) (get_or ns n 0 * 65536 ∷ drop (suc n) q)
    ∙ ap (λ (m : List ℕ). p ++ m) (sym (
    ap (λ (m : List ℕ). number_words m ++ drop (suc n) q) (take-suc ns n 0 h)
    ∙ ap (λ (m : List ℕ). m ++ drop (suc n) q) (words_append (take n ns) (get_or ns n 0 ∷ []))
    ∙ append_snoc (number_words (take n ns)) (get_or ns n 0 * 65536) (drop (suc n) q)))))

module _ (t : List ℕ) (at l : ℕ) (ns : List ℕ) where
  -- what is promised of the answer and of the tape
  abbrev Puts : Result ℕ NotLaid → List ℕ → Type 0
  Puts r after = (r ≡ put_line (length t) at l ns) × (after ≡ tape_after at l ns t)

  pub no_line : (k : Bool) → k ≡ count_ok l (length ns) (length ns) → k ≡ false → Puts (Err (Denied BadJournal)) t
  unfolding put_line tape_after line_ok
  no_line k q e = let f = sym q ∙ e in (simp f, simp f)

  module _ (k : Bool) (q : k ≡ count_ok l (length ns) (length ns)) (ok : k ≡ true) where
    full : no_room (length t) at (length ns) ≡ true → Puts (Err NoRoom) t
    unfolding put_line tape_after line_ok
    full e = let f = sym q ∙ ok in (simp (f, e), simp (f, e))

    pub past : length t < at → Puts (Err NoRoom) t
    unfolding no_room
    past h = full (simp (lt-ltb (length t) at h))

    pub short : at ≤ length t → length t - at ≤ length ns → Puts (Err NoRoom) t
    unfolding no_room
    short m h = full (simp (le-ltb (length t) at m, le-leb (length t - at) (length ns) h))

    has_room : at ≤ length t → length ns < length t - at → no_room (length t) at (length ns) ≡ false
    unfolding no_room
    has_room m h = simp (le-ltb (length t) at m, lt-leb (length t - at) (length ns) h)

    stands : at ≤ length t → length ns < length t - at
        → numbers_put (length ns) (set t at l) (at + 1) ns ≡ take at t ++ line_words (line_given l ns) ++ drop (at + 1 + length ns) t
    stands m h =
        let k : length (take at t ++ (l ∷ [])) ≡ at + 1 = simp (length-append, length-take-le at t m) in
        let q : set t at l ≡ (take at t ++ (l ∷ [])) ++ drop (suc at) t = set_split t at l (omega arith) ∙ sym (append_snoc (take at t) l (drop (suc at) t)) in
        let room : length ns ≤ length (drop (suc at) t) = rw (length-drop (suc at) t) (omega arith) in
        let d : suc at + length ns ≡ at + 1 + length ns = omega arith in
        let s : drop (length ns) (drop (suc at) t) ≡ drop (at + 1 + length ns) t = drop-drop (length ns) (suc at) t ∙ ap (λ (k : ℕ). drop k t) d in
        rw q (
        numbers_are (take at t ++ (l ∷ [])) (drop (suc at) t) ns (at + 1) (length ns) k (omega arith) room
        ∙ ap (λ (k : List ℕ). (take at t ++ (l ∷ [])) ++ (number_words k ++ drop (length ns) (drop (suc at) t))) (take-length ns)
        ∙ ap (λ (k : List ℕ). (take at t ++ (l ∷ [])) ++ (number_words ns ++ k)) s
        ∙ append_snoc (take at t) l (number_words ns ++ drop (at + 1 + length ns) t)
        ∙ sym (append_assoc (take at t) (line_words (line_given l ns)) (drop (at + 1 + length ns) t)))

    pub laid : (after : List ℕ) → at ≤ length t → length ns < length t - at
        → after ≡ numbers_put (length ns) (set t at l) (at + 1) ns → Puts (Ok (at + 1 + length ns)) after
    unfolding put_line tape_after line_ok
    laid after m h e = let f = sym q ∙ ok in let g = has_room m h in (simp (f, g), e ∙ stands m h ∙ simp (f, g))

-- the first entries with one line more
pub one_more : (ls : List Line) (m : Line) → tape_of (ls ++ (m ∷ [])) ≡ tape_of ls ++ line_words m
unfolding tape_of
one_more [] m = append-nil (line_words m)
one_more (l ∷ ls) m = rw (one_more ls m) (sym (append_assoc (line_words l) (tape_of ls) (line_words m)))
