-- Entries that spell a hand are the entries of lines, and of no others. Assumes nothing.
use Prim.Native.Nat.{ℕ, zero, suc, ◌+◌, ◌*◌, ◌-◌, ◌≤◌, ◌<◌, ◌/◌, ◌%◌}
use Prim.Native.Char.{code}
use native.Mathlib.Omega.{arith}
use mathlib.Core.Path.{◌≡◌, refl, sym, ap, ◌∙◌}
use mathlib.Core.Bool.{Bool, true, false, not, ◌&&◌, ◌||◌}
use mathlib.Core.Logic.{⊎_elim}
use mathlib.Core.List.{List, [], ◌∷◌, ◌++◌, map, append-nil}
use borrow.Author.Tests.{eq-eqb, ne_eqb, eqb-true, le-leb, leb-true}
use lib.Dec.{eqb, leb}
use lib.ListN.{length, get_or}
use Rattle.journal.specs.Entry.{is_letter, is_number, entry_word, number}
use Rattle.journal.specs.Lines.{Line, count_ok, all_small, rest_ok, lines_ok, line_words, tape_of, leading, lines_of, allowed, name_after, count_after, stacks_in, stacks_after, spelt, spells}
use Rattle.commons.proofs.Bools.{either, differ, never, and_both}
use Rattle.commons.proofs.Order.{lt_or_le}

abbrev pub number_words : List ℕ → List ℕ
number_words ns = map (λ n. entry_word (number n)) ns

-- ---- entries to lines and back: always the same entries
times : (w : ℕ) → is_number w ≡ true → w / 65536 * 65536 ≡ w
unfolding is_number
times w e = let z = eqb-true (w % 65536) 0 e in omega arith

pub tape-back : (ws : List ℕ) → number_words (leading ws) ++ tape_of (lines_of ws) ≡ ws
unfolding leading lines_of tape_of
tape-back [] = refl
tape-back (w ∷ ws) = at (is_number w) refl (tape-back ws)
  where
    at : (t : Bool) → is_number w ≡ t → number_words (leading ws) ++ tape_of (lines_of ws) ≡ ws → number_words (leading (w ∷ ws)) ++ tape_of (lines_of (w ∷ ws)) ≡ w ∷ ws
    at true e r = rw e (λ j. times w e j ∷ r j)
    at false e r = rw e (ap (λ (l : List ℕ). w ∷ l) r)

-- ---- lines to entries and back
number_is : (n : ℕ) → is_number (n * 65536) ≡ true
unfolding is_number
number_is n = eq-eqb (n * 65536 % 65536) 0 (omega arith)

leading-numbers : (ns rest : List ℕ) → leading (number_words ns ++ rest) ≡ ns ++ leading rest
unfolding leading
leading-numbers [] rest = refl
leading-numbers (n ∷ ns) rest =
    let e : n * 65536 / 65536 ≡ n = omega arith in
    rw (number_is n, e, leading-numbers ns rest)

lines-numbers : (ns rest : List ℕ) → lines_of (number_words ns ++ rest) ≡ lines_of rest
unfolding lines_of
lines-numbers [] rest = refl
lines-numbers (n ∷ ns) rest = rw (number_is n) (lines-numbers ns rest)

-- a letter with its count is a letter and no number
abbrev pub Letter : ℕ → Type 0
Letter l = (is_letter l ≡ true) × (is_number l ≡ false)

a_letter : (l m : ℕ) → l ≡ m → (is_letter m ≡ true) × (is_number m ≡ false) → Letter l
a_letter l m e h = rw e h

pub letter-of : (l stacks count : ℕ) → count_ok l stacks count ≡ true → Letter l
unfolding count_ok is_letter is_number
letter-of l stacks count e =
    ⊎_elim (λ (t : eqb l 116 ≡ true). a_letter l 116 (eqb-true l 116 t) (refl, refl))
    (λ (t : eqb l 116 ≡ false).
    let e1 = rw t at e in
    ⊎_elim (λ (u : eqb l 119 ≡ true). a_letter l 119 (eqb-true l 119 u) (refl, refl))
    (λ (u : eqb l 119 ≡ false).
    let e2 = rw u at e1 in
    ⊎_elim (λ (v : eqb l 98 ≡ true). a_letter l 98 (eqb-true l 98 v) (refl, refl))
    (λ (v : eqb l 98 ≡ false).
    let e3 = rw v at e2 in
    ⊎_elim (λ (w : eqb l 112 ≡ true). a_letter l 112 (eqb-true l 112 w) (refl, refl))
    (λ (w : eqb l 112 ≡ false).
    let e4 = rw w at e3 in
    ⊎_elim (λ (x : eqb l 110 ≡ true). a_letter l 110 (eqb-true l 110 x) (refl, refl))
    (λ (x : eqb l 110 ≡ false).
    let e5 = rw x at e4 in
    ⊎_elim (λ (y : eqb l 102 ≡ true). a_letter l 102 (eqb-true l 102 y) (refl, refl))
    (λ (y : eqb l 102 ≡ false).
    let e6 = rw y at e5 in
    a_letter l 120 (eqb-true l 120 (and_both (eqb l 120) (eqb count 0) e6).0) (refl, refl))
    (either (eqb l 102))) (either (eqb l 110))) (either (eqb l 112))) (either (eqb l 98))) (either (eqb l 119))) (either (eqb l 116))

-- the letters of a hand stand from `b` to `x`
not-letter : (w : ℕ) → ((k : ℕ) → 98 ≤ k → k ≤ 120 → w ≡ k → ⊥) → is_letter w ≡ false
unfolding is_letter
not-letter w f =
    let at : (k : ℕ) → 98 ≤ k → k ≤ 120 → eqb w k ≡ false = λ k h g. ne_eqb w k (f k h g) in
    simp (at 116 (omega arith) (omega arith), at 110 (omega arith) (omega arith), at 102 (omega arith) (omega arith), at 98 (omega arith) (omega arith), at 112 (omega arith) (omega arith), at 120 (omega arith) (omega arith), at 119 (omega arith) (omega arith))

pub letter_in : (w : ℕ) → is_letter w ≡ true → (98 ≤ w) × (w ≤ 120)
letter_in w e = (
  ⊎_elim (λ (h : w < 98). absurd (differ (is_letter w) e (not-letter w (λ k a b q. omega arith)))) (λ (h : 98 ≤ w). h) (lt_or_le w 98),
  ⊎_elim (λ (h : w < 121). omega arith) (λ (h : 121 ≤ w). absurd (differ (is_letter w) e (not-letter w (λ k a b q. omega arith)))) (lt_or_le w 121),
)

not_false' : (t : Bool) → not t ≡ true → t ≡ false
not_false' true e = sym e
not_false' false e = refl

-- ---- good lines spell
spelt-numbers : (ns rest : List ℕ) (l c s : ℕ) → spelt l c s (number_words ns ++ rest) ≡ spelt l (c + length ns) s rest
unfolding spelt allowed name_after count_after stacks_after
spelt-numbers [] rest l c s = let e : c + 0 ≡ c = omega arith in rw e
spelt-numbers (n ∷ ns) rest l c s =
    let e : c + suc (length ns) ≡ c + 1 + length ns = omega arith in
    rw (number_is n, e) (spelt-numbers ns rest l (c + 1) s)

spelt-letter : (w l c s : ℕ) (ws : List ℕ) → Letter w → eqb w 116 ≡ false → count_ok l s c ≡ true → spelt l c s (w ∷ ws) ≡ spelt w 0 (stacks_in l c s) ws
unfolding spelt allowed name_after count_after stacks_after
spelt-letter w l c s ws h t e = simp (h.1, h.0, t, e)

kept-stacks : (l c s : ℕ) → eqb l 116 ≡ false → stacks_in l c s ≡ s
unfolding stacks_in
kept-stacks l c s e = simp e

end : (l c s : ℕ) → count_ok l s c ≡ true → spelt l c s [] ≡ true
unfolding spelt
end l c s e = e

rest-spells : (ls : List Line) (l c s : ℕ) → count_ok l s c ≡ true → rest_ok (stacks_in l c s) ls ≡ true → spelt l c s (tape_of ls) ≡ true
unfolding rest_ok tape_of
rest-spells [] l c s e r = end l c s e
rest-spells (m ∷ ms) l c s e r =
    let x = not_false' (eqb m.name 116) (and_both _ _ r).0 in
    let r1 = (and_both (not (eqb m.name 116)) _ r).1 in
    let k : count_ok m.name (stacks_in l c s) (length m.numbers) ≡ true = (and_both _ _ r1).0 in
    let r2 = (and_both (count_ok m.name (stacks_in l c s) (length m.numbers)) _ r1).1 in
    let r3 = (and_both (all_small m.numbers) _ r2).1 in
    let z : 0 + length m.numbers ≡ length m.numbers = omega arith in
    spelt-letter m.name l c s (number_words m.numbers ++ tape_of ms) (letter-of m.name (stacks_in l c s) (length m.numbers) k) x e
    ∙ spelt-numbers m.numbers (tape_of ms) m.name 0 (stacks_in l c s)
    ∙ rw z (rest-spells ms m.name (length m.numbers) (stacks_in l c s) k (rw (kept-stacks m.name (length m.numbers) (stacks_in l c s) x) r3))

table-stacks : (c s : ℕ) → stacks_in 116 c s ≡ c - 4
unfolding stacks_in
table-stacks c s = refl

table-count : (s c : ℕ) → leb 4 c ≡ true → count_ok 116 s c ≡ true
unfolding count_ok
table-count s c e = e

pub lines_spell : (ls : List Line) → lines_ok ls ≡ true → spells (tape_of ls) ≡ true
unfolding lines_ok spells tape_of
lines_spell [] e = absurd (let z : ◌≡◌ {A = ℕ} 0 1 = cc in omega arith)
lines_spell (m ∷ ms) e =
    let t : m.name ≡ 116 = eqb-true m.name 116 (and_both _ _ e).0 in
    let r1 = (and_both (eqb m.name 116) _ e).1 in
    let k : leb 4 (length m.numbers) ≡ true = (and_both _ _ r1).0 in
    let r2 = (and_both (leb 4 (length m.numbers)) _ r1).1 in
    let r3 : rest_ok (length m.numbers - 4) ms ≡ true = (and_both (all_small m.numbers) _ r2).1 in
    let z : 0 + length m.numbers ≡ length m.numbers = omega arith in
    rw (eq-eqb m.name 116 t) (
    spelt-numbers m.numbers (tape_of ms) 116 0 0
    ∙ rw z (rest-spells ms 116 (length m.numbers) 0 (table-count 0 (length m.numbers) k) (rw (table-stacks (length m.numbers) 0) r3)))

-- ---- what spells is lines, if its entries have 32 bits
small-number : (w : ℕ) → w < 4294967296 → leb (w / 65536) 65535 ≡ true
small-number w h = le-leb (w / 65536) 65535 (omega arith)

abbrev Spelt : List ℕ → ℕ → ℕ → ℕ → Type 0
Spelt ws l c s =
    (count_ok l s (c + length (leading ws)) ≡ true)
    × (rest_ok (stacks_in l (c + length (leading ws)) s) (lines_of ws) ≡ true)
    × (all_small (leading ws) ≡ true)

both : (a b c : Bool) → a || (b && c) ≡ true → a ≡ false → c ≡ true
both true b c e f = absurd (differ true refl f)
both false b c e f = (and_both b c e).1

at-number : (w : ℕ) (ws : List ℕ) (l c s : ℕ) → is_number w ≡ true → w < 4294967296 → Spelt ws (name_after l w) (count_after c w) (stacks_after l c s w) → Spelt (w ∷ ws) l c s
unfolding leading lines_of all_small name_after count_after stacks_after
at-number w ws l c s n h r =
    let r' : Spelt ws l (c + 1) s = rw n at r in
    let e : c + suc (length (leading ws)) ≡ c + 1 + length (leading ws) = omega arith in
    rw n (rw (e, small-number w h) r')

at-letter : (w : ℕ) (ws : List ℕ) (l c s : ℕ) → is_number w ≡ false → allowed l c s w ≡ true → Spelt ws (name_after l w) (count_after c w) (stacks_after l c s w) → Spelt (w ∷ ws) l c s
unfolding leading lines_of all_small allowed name_after count_after stacks_after rest_ok
at-letter w ws l c s n a r =
    let r' : Spelt ws w 0 (stacks_in l c s) = rw n at r in
    let q = both (is_number w) (is_letter w) _ a n in
    let t = not_false' (eqb w 116) (and_both _ _ q).0 in
    let k : count_ok l s c ≡ true = (and_both (not (eqb w 116)) _ q).1 in
    let z : c + 0 ≡ c = omega arith in
    let y : 0 + length (leading ws) ≡ length (leading ws) = omega arith in
    let o : count_ok w (stacks_in l c s) (length (leading ws)) ≡ true = rw y at r'.0 in
    let p : rest_ok (stacks_in l c s) (lines_of ws) ≡ true = rw (kept-stacks w (0 + length (leading ws)) (stacks_in l c s) t) at r'.1 in
    let p' : rest_ok (stacks_in l (c + 0) s) (lines_of ws) ≡ true = rw z p in
    rw n (rw z (k, simp (t, o, r'.2) p', refl))

spelt-lines : (ws : List ℕ) (l c s : ℕ) → ((i : ℕ) → get_or ws i 0 < 4294967296) → spelt l c s ws ≡ true → Spelt ws l c s
unfolding spelt leading lines_of rest_ok all_small
spelt-lines [] l c s small e = let z : c + 0 ≡ c = omega arith in (rw z e, refl, refl)
spelt-lines (w ∷ ws) l c s small e =
    at (is_number w) refl (and_both _ _ e).0 (spelt-lines ws (name_after l w) (count_after c w) (stacks_after l c s w) (λ i. small (suc i)) (and_both (allowed l c s w) _ e).1)
  where
    at : (t : Bool) → is_number w ≡ t → allowed l c s w ≡ true → Spelt ws (name_after l w) (count_after c w) (stacks_after l c s w) → Spelt (w ∷ ws) l c s
    at true n a r = at-number w ws l c s n (small 0) r
    at false n a r = at-letter w ws l c s n a r

table-letter : is_number 116 ≡ false
unfolding is_number
table-letter = refl

first_of : (s c : ℕ) → count_ok 116 s c ≡ true → leb 4 c ≡ true
unfolding count_ok
first_of s c e = e

table-lines : (ws : List ℕ) → lines_of (116 ∷ ws) ≡ record { name = 116; numbers = leading ws } ∷ lines_of ws
unfolding lines_of
table-lines ws = rw table-letter

table-leading : (ws : List ℕ) → leading (116 ∷ ws) ≡ []
unfolding leading
table-leading ws = rw table-letter

spells_at : (w : ℕ) (ws : List ℕ) → w ≡ 116 → ((i : ℕ) → get_or ws i 0 < 4294967296) → spelt 116 0 0 ws ≡ true → lines_ok (lines_of (w ∷ ws)) ≡ true
unfolding lines_ok
spells_at w ws t small e =
    let r = spelt-lines ws 116 0 0 small e in
    let y : 0 + length (leading ws) ≡ length (leading ws) = omega arith in
    let c : leb 4 (length (leading ws)) ≡ true = first_of 0 (length (leading ws)) (rw y at r.0) in
    let p : rest_ok (length (leading ws) - 4) (lines_of ws) ≡ true = rw (ap (λ (n : ℕ). stacks_in 116 n 0) y ∙ table-stacks (length (leading ws)) 0) at r.1 in
    rw (t, table-lines ws) (simp (c, r.2, p))

pub spells-lines : (ws : List ℕ) → ((i : ℕ) → get_or ws i 0 < 4294967296) → spells ws ≡ true → lines_ok (lines_of ws) ≡ true
unfolding spells
spells-lines [] small e = absurd (let z : ◌≡◌ {A = ℕ} 0 1 = cc in omega arith)
spells-lines (w ∷ ws) small e = spells_at w ws (eqb-true w 116 (and_both _ _ e).0) (λ i. small (suc i)) (and_both (eqb w 116) _ e).1

pub spells-tape : (ws : List ℕ) → spells ws ≡ true → tape_of (lines_of ws) ≡ ws
unfolding spells
spells-tape [] e = absurd (let z : ◌≡◌ {A = ℕ} 0 1 = cc in omega arith)
spells-tape (w ∷ ws) e =
    let t : w ≡ 116 = eqb-true w 116 (and_both _ _ e).0 in
    rw t (rw (table-leading ws) at (tape-back (116 ∷ ws)))

-- ---- lines are told apart by their entries
abbrev Named : List Line → Type 0
Named [] = Unit
Named (m ∷ ms) = (is_number m.name ≡ false) × Named ms

rest-named : (s : ℕ) (ls : List Line) → rest_ok s ls ≡ true → Named ls
unfolding rest_ok
rest-named s [] r = tt
rest-named s (m ∷ ms) r =
    let r1 = (and_both (not (eqb m.name 116)) _ r).1 in
    let k : count_ok m.name s (length m.numbers) ≡ true = (and_both _ _ r1).0 in
    let r2 = (and_both (count_ok m.name s (length m.numbers)) _ r1).1 in
    ((letter-of m.name s (length m.numbers) k).1, rest-named s ms (and_both (all_small m.numbers) _ r2).1)

lines-named : (ls : List Line) → lines_ok ls ≡ true → Named ls
unfolding lines_ok
lines-named [] e = tt
lines-named (m ∷ ms) e =
    let t : m.name ≡ 116 = eqb-true m.name 116 (and_both _ _ e).0 in
    let r1 = (and_both (eqb m.name 116) _ e).1 in
    let r2 = (and_both (leb 4 (length m.numbers)) _ r1).1 in
    (rw t table-letter, rest-named (length m.numbers - 4) ms (and_both (all_small m.numbers) _ r2).1)

none-leading : (ls : List Line) → Named ls → leading (tape_of ls) ≡ []
unfolding leading tape_of
none-leading [] h = refl
none-leading (m ∷ ms) h = rw h.0

named_back : (ls : List Line) → Named ls → lines_of (tape_of ls) ≡ ls
unfolding lines_of tape_of
named_back [] h = refl
named_back (m ∷ ms) h =
    rw (h.0, leading-numbers m.numbers (tape_of ms), lines-numbers m.numbers (tape_of ms), none-leading ms h.1, named_back ms h.1) (
    λ j. record { name = m.name; numbers = append-nil m.numbers j } ∷ ms)

pub lines-back : (ls : List Line) → lines_ok ls ≡ true → lines_of (tape_of ls) ≡ ls
lines-back ls e = named_back ls (lines-named ls e)

pub one-tape : (ls ms : List Line) → lines_ok ls ≡ true → lines_ok ms ≡ true → tape_of ls ≡ tape_of ms → ls ≡ ms
one-tape ls ms e f q = sym (lines-back ls e) ∙ ap lines_of q ∙ lines-back ms f

-- ---- lines of any letters and numbers that have their bits. A letter is not 0: as an entry that would be a number of the line before it
abbrev pub Sized : Line → Type 0
Sized m = (0 < m.name) × (m.name < 256) × (all_small m.numbers ≡ true)

abbrev pub AllSized : List Line → Type 0
AllSized [] = Unit
AllSized (m ∷ ms) = Sized m × AllSized ms

sized-letter : (l : ℕ) → 0 < l → l < 256 → is_number l ≡ false
unfolding is_number
sized-letter l h g = ne_eqb (l % 65536) 0 (λ e. omega arith)

sized-named : (ls : List Line) → AllSized ls → Named ls
sized-named [] a = tt
sized-named (m ∷ ms) a = (sized-letter m.name a.0.0 a.0.1, sized-named ms a.1)

-- such lines come back from their entries, be they a hand or not
pub sized-back : (ls : List Line) → AllSized ls → lines_of (tape_of ls) ≡ ls
sized-back ls a = named_back ls (sized-named ls a)

-- their entries have 32 bits
abbrev Small : List ℕ → Type 0
Small ws = (i : ℕ) → get_or ws i 0 < 4294967296

small-both : (xs ys : List ℕ) → Small xs → Small ys → Small (xs ++ ys)
small-both [] ys f g i = g i
small-both (x ∷ xs) ys f g zero = f 0
small-both (x ∷ xs) ys f g (suc i) = small-both xs ys (λ j. f (suc j)) g i

small-numbers : (ns : List ℕ) → all_small ns ≡ true → Small (number_words ns)
unfolding all_small
small-numbers [] e i = omega arith
small-numbers (n ∷ ns) e zero = let h = leb-true n 65535 (and_both _ _ e).0 in omega arith
small-numbers (n ∷ ns) e (suc i) = small-numbers ns (and_both (leb n 65535) _ e).1 i

small_line : (m : Line) → Sized m → Small (line_words m)
small_line m a zero = omega (arith, a.1)
small_line m a (suc i) = small-numbers m.numbers a.2 i

small-tape : (ls : List Line) → AllSized ls → Small (tape_of ls)
unfolding tape_of
small-tape [] a i = omega arith
small-tape (m ∷ ms) a i = small-both (line_words m) (tape_of ms) (small_line m a.0) (small-tape ms a.1) i

-- so their entries spell a hand exactly when they are the lines of one
pub spells_as : (ls : List Line) → AllSized ls → spells (tape_of ls) ≡ lines_ok ls
spells_as ls a =
    ⊎_elim (λ (e : lines_ok ls ≡ true). lines_spell ls e ∙ sym e)
    (λ (e : lines_ok ls ≡ false).
    never (spells (tape_of ls)) (λ s. differ (lines_ok ls) (ap lines_ok (sym (sized-back ls a)) ∙ spells-lines (tape_of ls) (small-tape ls a) s) e) ∙ sym e)
    (either (lines_ok ls))

-- that letters are not 0 is needed: a `t` of three numbers and a line of letter 0 are no hand, and their entries are those of a `t` of four numbers
abbrev pub zero_letter : List Line
zero_letter = record { name = code "t"; numbers = 1 ∷ 2 ∷ 3 ∷ [] } ∷ record { name = 0; numbers = [] } ∷ []

pub zero-letter : (spells (tape_of zero_letter) ≡ true) × (lines_ok zero_letter ≡ false)
unfolding spells spelt allowed name_after count_after stacks_after stacks_in count_ok is_number is_letter tape_of lines_ok
zero-letter = (refl, refl)
