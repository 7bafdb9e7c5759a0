-- Laws of a line as it is read from entries, number by number. `after` says what comes of it when some numbers are laid into the list and some entries
-- are left. Assumes nothing.
use Prim.Native.Nat.{ℕ, zero, suc, ◌+◌, ◌-◌, ◌≤◌, ◌<◌, ◌/◌, ◌%◌}
use native.Mathlib.Numerals.{add-one}
use native.Mathlib.Omega.{arith}
use mathlib.Core.Path.{◌≡◌, refl, sym, ap, ◌∙◌}
use mathlib.Core.Bool.{Bool, true, false, cond}
use mathlib.Core.List.{List, [], ◌∷◌}
use borrow.Author.Tests.{le-leb, lt-leb}
use lib.ListN.{length, set, replicate}
use Rattle.script.specs.Words.{no_words}
use Rattle.script.proofs.LawsWords.{laid, laid-firsts}
use Rattle.journal.specs.Entry.{is_number}
use Rattle.journal.specs.Lines.{leading}
use Rattle.journal.specs.Hand.{blocks_in, word_count, word_given}
use Rattle.journal.specs.Reading.{count_given, given_from, rest_from, numbers_at, line_from, line_read}
use Rattle.journal.specs.declared.reading.Numbers.{Numbers}

-- ---- how many entries there are
pub none-there : (b : List ℕ) → blocks_in b < 1 → 0 ≡ count_given b
unfolding count_given
none-there b h = simp (lt-leb 1 (blocks_in b) h)

pub some-there : (b : List ℕ) → 1 ≤ blocks_in b → word_count b ≡ count_given b
unfolding count_given
some-there b h = simp (le-leb 1 (blocks_in b) h)

-- ---- the entries that are left
module _ (b : List ℕ) (total : ℕ) where
  pub rest-next : (i : ℕ) → i < total → rest_from b i total ≡ word_given b i ∷ rest_from b (i + 1) total
  unfolding given_from
  rest-next i h = let e : total - i ≡ suc (total - (i + 1)) = omega arith in rw (e, add-one i)

  pub rest-done : (i : ℕ) → total ≤ i → rest_from b i total ≡ []
  unfolding given_from
  rest-done i h = let e : total - i ≡ 0 = omega arith in rw e

pub given-long : (b : List ℕ) (n i : ℕ) → length (given_from b i n) ≡ n
unfolding given_from
given-long b zero i = refl
given-long b (suc n) i = ap suc (given-long b n (suc i))

pub leading-most : (ws : List ℕ) → length (leading ws) ≤ length ws
unfolding leading
leading-most [] = omega arith
leading-most (w ∷ ws) = at (is_number w) (leading-most ws)
  where
    at : (t : Bool) → length (leading ws) ≤ length ws → length (cond t (w / 65536 ∷ leading ws) []) ≤ suc (length ws)
    at true h = omega arith
    at false h = omega arith

pub numbers-most : (b : List ℕ) (from total : ℕ) → (numbers_at b from total).count ≤ total - from
unfolding numbers_at
numbers-most b from total = omega (arith, leading-most (rest_from b from total), given-long b (total - from) from)

-- ---- number by number
unfoldable pub after : ℕ → List ℕ → List ℕ → Numbers
after count list ws = record { count = count + length (leading ws); list = laid list count (leading ws) }

module _ (b : List ℕ) (total : ℕ) where
  pub begins : (from : ℕ) → numbers_at b from total ≡ after 0 (replicate 20 0) (rest_from b from total)
  unfolding numbers_at after
  begins from = let e : 0 + length (leading (rest_from b from total)) ≡ length (leading (rest_from b from total)) = omega arith in simp (laid-firsts 20 (leading (rest_from b from total)), e)

  module _ (at count : ℕ) (list : List ℕ) where
    pub stops : at < total → is_number (word_given b at) ≡ false → after count list (rest_from b at total) ≡ record { count = count; list = list }
    unfolding after leading laid
    stops h n = let e : count + 0 ≡ count = omega arith in simp (rest-next b total at h, n, e)

    pub goes_on : (v : ℕ) (list' : List ℕ) → at < total → is_number (word_given b at) ≡ true → v ≡ word_given b at / 65536 → list' ≡ set list count v
        → after count list (rest_from b at total) ≡ after (count + 1) list' (rest_from b (at + 1) total)
    unfolding after leading laid
    goes_on v list' h n e l =
        let c : count + suc (length (leading (rest_from b (at + 1) total))) ≡ suc count + length (leading (rest_from b (at + 1) total)) = omega arith in
        simp (rest-next b total at h, n, l, e, c, add-one count)

    pub whole : total ≤ at → after count list (rest_from b at total) ≡ record { count = count; list = list }
    unfolding after leading laid
    whole h = let e : count + 0 ≡ count = omega arith in simp (rest-done b total at h, e)

-- ---- the line
module _ (b : List ℕ) (i total : ℕ) (t : total ≡ count_given b) where
  pub at-end : total ≤ i → record { words = no_words; next = i } ≡ line_read b i
  unfolding line_read line_from
  at-end h = sym (ap (λ (n : ℕ). line_from i (rest_from b i n)) (sym t) ∙ ap (line_from i) (rest-done b total i h))

  pub line-there : i < total → (w : ℕ) (n : Numbers) → w ≡ word_given b i → n ≡ numbers_at b (i + 1) total
      → record { words = record { letter = w % 256; count = n.count; numbers = n.list }; next = i + 1 + n.count } ≡ line_read b i
  unfolding line_read line_from numbers_at
  line-there h w n e f = sym (ap (λ (k : ℕ). line_from i (rest_from b i k)) (sym t) ∙ ap (line_from i) (rest-next b total i h) ∙ rw (e, f))
