-- Laws of the lines of a hand that reads, one by one: the line at a place is the first of those that are left, and the others are left at the place behind it.
-- Assumes nothing.
use Prim.Native.Nat.{ℕ, zero, suc, ◌+◌, ◌*◌, ◌-◌, ◌/◌, ◌%◌, ◌≤◌, ◌<◌}
use native.Mathlib.Omega.{arith}
use mathlib.Core.Path.{◌≡◌, refl, sym, ap, ◌∙◌, subst}
use mathlib.Core.Bool.{Bool, true, false}
use mathlib.Core.List.{List, [], ◌∷◌, map}
use borrow.Author.Tests.{eqb-true, leb-true, lt-leb}
use lib.Dec.{eqb}
use lib.ListN.{length, get_or, drop, length-drop}
use lib.Seq.{drop-nil, get_or-drop}
use Rattle.commons.proofs.Bools.{and_both}
use Rattle.commons.proofs.Tests.{test_at}
use Rattle.script.specs.declared.line.Words.{Words}
use Rattle.journal.specs.declared.hand.HandHead.{HandHead}
use Rattle.std.specs.Prelude.{Ok}
use Rattle.journal.specs.declared.reading.LineRead.{LineRead}
use Rattle.journal.specs.Entry.{is_letter, is_number, is_entry}
use Rattle.journal.specs.Hand.{blocks_in, word_in, words_from, word_given, word_count, words_of, hand_tests, hand_ok, reads}
use Rattle.journal.specs.Lines.{leading, lines_of, spells}
use Rattle.journal.specs.Reading.{as_played, count_given, given_from, rest_from, line_from, line_read}
use Rattle.journal.proofs.Hands.{read_ok}
use Rattle.journal.proofs.LawsReads.{last-used}
use Rattle.journal.proofs.LawsReading.{some-there, rest-next, rest-done}
use Rattle.journal.proofs.LawsSpelt.{letter_in}
use Rattle.journal.proofs.LawsTrip.{spells-entries}

-- ---- entries that begin with a letter, or none
pub data Starts : List ℕ → Type 0 where
  nothing : Starts []
  letter : {w : ℕ} {ws : List ℕ} → is_number w ≡ false → Starts (w ∷ ws)

-- the entries past the leading numbers begin so, and have the same lines
pub past-numbers : (ws : List ℕ) → Starts (drop (length (leading ws)) ws) × (lines_of ws ≡ lines_of (drop (length (leading ws)) ws))
unfolding leading lines_of
past-numbers [] = (nothing, refl)
past-numbers (w ∷ ws) = at (is_number w) refl (past-numbers ws)
  where
    at : (t : Bool) → is_number w ≡ t → Starts (drop (length (leading ws)) ws) × (lines_of ws ≡ lines_of (drop (length (leading ws)) ws))
        → Starts (drop (length (leading (w ∷ ws))) (w ∷ ws)) × (lines_of (w ∷ ws) ≡ lines_of (drop (length (leading (w ∷ ws))) (w ∷ ws)))
    at true e h = rw e h
    at false e h = rw e (letter e, rw e refl)

-- an entry that is no number is a letter, and has one byte
letter-small : (w : ℕ) → is_entry w ≡ true → is_number w ≡ false → w % 256 ≡ w
unfolding is_entry
letter-small w e n = let l : is_letter w ≡ true = rw n at e in omega (arith, letter_in w l)

-- ---- the first line of some entries, and those past it
abbrev pub Entries : List ℕ → Type 0
Entries ws = (i : ℕ) → i < length ws → is_entry (get_or ws i 0) ≡ true

abbrev pub played : List ℕ → List Words
played ws = map as_played (lines_of ws)

first-line : (i w : ℕ) (ws : List ℕ) → is_number w ≡ false → is_entry w ≡ true → played (w ∷ ws) ≡ (line_from i (w ∷ ws)).words ∷ played (drop (length (leading ws)) ws)
unfolding lines_of line_from
first-line i w ws n e =
    let s : w ≡ w % 256 = sym (letter-small w e n) in
    rw n (λ j. as_played (record { name = s j; numbers = leading ws }) ∷ map as_played ((past-numbers ws).1 j))

starts_so : {w : ℕ} {ws : List ℕ} → Starts (w ∷ ws) → is_number w ≡ false
starts_so (letter e) = e

entry_so : (w : ℕ) (ws : List ℕ) → Entries (w ∷ ws) → (is_entry w ≡ true) × Entries ws
entry_so w ws f = (f 0 (omega arith), λ i h. f (suc i) (omega arith))

past-entries : (j : ℕ) (ws : List ℕ) → Entries ws → Entries (drop j ws)
past-entries j ws f i h = rw (get_or-drop j ws i 0) (f (j + i) (omega (arith, length-drop j ws)))

-- ---- the entries of bytes from a place on
given-drop : (b : List ℕ) (j i n : ℕ) → drop j (given_from b i n) ≡ given_from b (i + j) (n - j)
unfolding given_from
given-drop b zero i n = let e : i + 0 ≡ i = omega arith in let f : n - 0 ≡ n = omega arith in rw (e, f)
given-drop b (suc j) i zero = let f : 0 - suc j ≡ 0 = omega arith in rw f (drop-nil (suc j))
given-drop b (suc j) i (suc n) =
    let e : i + suc j ≡ suc i + j = omega arith in
    let f : suc n - suc j ≡ n - j = omega arith in
    rw (e, f) (given-drop b j (suc i) n)

given_is : (b : List ℕ) (n i : ℕ) → i + n ≤ 120 * blocks_in b → given_from b i n ≡ words_from b i n
unfolding given_from words_from word_given
given_is b zero i h = refl
given_is b (suc n) i h = rw (lt-leb (blocks_in b) (i / 120) (omega arith)) (ap (λ (l : List ℕ). word_in b i ∷ l) (given_is b n (suc i) (omega arith)))

table-starts : (ws : List ℕ) → spells ws ≡ true → Starts ws
unfolding spells is_number
table-starts [] e = nothing
table-starts (w ∷ ws) e = let t : w ≡ 116 = eqb-true w 116 (and_both (eqb w 116) _ e).0 in letter {w = w} (rw t refl)

-- ---- at the place of a line, or past the last of so many entries
pub record At (b : List ℕ) (total i : ℕ) : Type 0 where
  pub starts : Starts (rest_from b i total)
  pub entries : Entries (rest_from b i total)

-- the lines that are left there
abbrev pub left : List ℕ → ℕ → ℕ → List Words
left b total i = played (rest_from b i total)

module _ (b : List ℕ) (h : HandHead) (e : reads b ≡ Ok h) where
  head_so : (hand_ok b ≡ true) × (word_count b ≡ h.entries)
  head_so = let q = read_ok b h e in (q.0, ap (λ (k : HandHead). k.entries) q.1)

  test : (k : ℕ) → get_or (hand_tests b) k true ≡ true
  unfolding hand_ok
  test = test_at (hand_tests b) head_so.0

  some : 1 ≤ blocks_in b
  some = leb-true 1 (blocks_in b) (test 1)

  abbrev total : ℕ
  total = h.entries

  within : h.entries ≤ 120 * blocks_in b
  unfolding word_count
  within = let u = last-used b (test 2) some in omega (arith, u, head_so.1, some)

  all_there : rest_from b 0 total ≡ words_of b
  all_there = let z : total - 0 ≡ word_count b = omega (arith, head_so.1) in rw z (given_is b (word_count b) 0 (omega (arith, within, head_so.1)))

  pub count-is : count_given b ≡ h.entries
  count-is = sym (some-there b some) ∙ head_so.1

  line-is : (i : ℕ) → line_read b i ≡ line_from i (rest_from b i total)
  unfolding line_read
  line-is i = ap (λ (n : ℕ). line_from i (rest_from b i n)) count-is

  pub at_first : At b total 0
  at_first = record {
    starts = subst Starts (sym all_there) (table-starts (words_of b) (test 3));
    entries = subst Entries (sym all_there) (spells-entries (words_of b) (test 3));
  }

  pub left-first : left b total 0 ≡ played (words_of b)
  left-first = ap played all_there

  pub left-none : (i : ℕ) → total ≤ i → left b total i ≡ []
  unfolding lines_of
  left-none i n = ap played (rest-done b total i n)

  module _ (i : ℕ) (l : i < total) (a : At b total i) where
    abbrev w : ℕ
    w = word_given b i

    abbrev ws : List ℕ
    ws = rest_from b (i + 1) total

    here : rest_from b i total ≡ w ∷ ws
    here = rest-next b total i l

    no_number_lem : is_number w ≡ false
    no_number_lem = starts_so (subst Starts here a.starts)

    all-entries : (is_entry w ≡ true) × Entries ws
    all-entries = entry_so w ws (subst Entries here a.entries)

    next-is : (line_read b i).next ≡ i + 1 + length (leading ws)
    unfolding line_from
    next-is = ap (λ (r : LineRead). r.next) (line-is i ∙ ap (line_from i) here)

    past : drop (length (leading ws)) ws ≡ rest_from b (line_read b i).next total
    past =
        let j = length (leading ws) in
        let n : total - (i + 1) - length (leading ws) ≡ total - (i + 1 + length (leading ws)) = omega arith in
        given-drop b j (i + 1) (total - (i + 1)) ∙ ap (given_from b (i + 1 + j)) n ∙ ap (λ (k : ℕ). rest_from b k total) (sym next-is)

    pub at_next : At b total (line_read b i).next
    at_next = record { starts = subst Starts past (past-numbers ws).0; entries = subst Entries past (past-entries (length (leading ws)) ws all-entries.1) }

    pub left-next : left b total i ≡ (line_read b i).words ∷ left b total (line_read b i).next
    left-next =
        ap played here ∙ first-line i w ws no_number_lem all-entries.0
        ∙ (λ j. (ap (λ (r : LineRead). r.words) (sym (line-is i ∙ ap (line_from i) here)) j) ∷ played (past j))
