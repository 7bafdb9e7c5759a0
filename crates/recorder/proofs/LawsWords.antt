-- Laws of the words of a script's line: so many numbers of 16 bits, the first twenty of them in their places and zeros behind. Assumes nothing.
use Prim.Native.Nat.{ℕ, zero, suc, ◌≤◌}
use Prim.Native.Char.{code}
use native.Mathlib.Omega.{arith}
use mathlib.Core.Path.{◌≡◌, refl, sym, ap, ◌∙◌}
use mathlib.Core.Bool.{true, ◌&&◌}
use mathlib.Core.List.{List, [], ◌∷◌, map}
use borrow.Author.Tests.{leb-true}
use lib.Dec.{leb}
use lib.ListN.{length, get_or, take, length-map}
use Rattle.commons.proofs.Bools.{and_both, tested}
use Rattle.script.specs.declared.line.Words.{Words}
use Rattle.script.specs.Number.{all_digits, unpadded, value, is_number}
use Rattle.script.specs.Split.{pieces}
use Rattle.script.specs.Words.{all_numbers, firsts, no_words, lettered, as_words, words_of}
use Rattle.recorder.proofs.LawsHands.{Each, none, more}

-- these numbers are the line's
pub record Proper (w : Words) : Type 0 where
  pub own : List ℕ
  pub counted : w.count ≡ length own
  pub placed : w.numbers ≡ firsts 20 own
  pub small : Each (λ n. n ≤ 65535) own

-- ---- the words of a line are so
small_values : (ws : List (List ℕ)) → all_numbers ws ≡ true → Each (λ n. n ≤ 65535) (map value ws)
unfolding all_numbers is_number
small_values [] e = none
small_values (w ∷ ws) e =
    let b = and_both (unpadded w && (all_digits w && leb (value w) 65535)) (all_numbers ws) e in
    let c = and_both (unpadded w) (all_digits w && leb (value w) 65535) b.0 in
    more (leb-true (value w) 65535 (and_both (all_digits w) (leb (value w) 65535) c.1).1) (small_values ws b.1)

none_proper : Proper no_words
unfolding firsts
none_proper = record { own = []; counted = refl; placed = refl; small = none }

lettered_proper : (b : ℕ) (ws : List (List ℕ)) → Proper (lettered b ws)
unfolding lettered
lettered_proper b ws =
    tested Proper (all_numbers ws) (record { letter = b; count = length ws; numbers = firsts 20 (map value ws) }) no_words
    (λ e. record { own = map value ws; counted = sym (length-map ws value); placed = refl; small = small_values ws e }) (λ f. none_proper)

as_proper : (ps : List (List ℕ)) → Proper (as_words ps)
as_proper ((b ∷ []) ∷ ws) = lettered_proper b ws
as_proper [] = none_proper
as_proper ([] ∷ ws) = none_proper
as_proper ((b ∷ d ∷ bs) ∷ ws) = none_proper

pub words_proper : (line : List ℕ) → Proper (words_of line)
unfolding words_of
words_proper line = as_proper (pieces (code " ") line)

pub all_proper : (ls : List (List ℕ)) → Each Proper (map words_of ls)
all_proper [] = none
all_proper (l ∷ ls) = more (words_proper l) (all_proper ls)

-- ---- the first k places of a list
firsts-long : (k : ℕ) (ns : List ℕ) → length (firsts k ns) ≡ k
unfolding firsts
firsts-long zero ns = refl
firsts-long (suc k) [] = ap suc (firsts-long k [])
firsts-long (suc k) (n ∷ ns) = ap suc (firsts-long k ns)

firsts-all : (k : ℕ) (ns : List ℕ) → length ns ≤ k → take (length ns) (firsts k ns) ≡ ns
unfolding firsts
firsts-all k [] h = refl
firsts-all zero (n ∷ ns) h = absurd (omega arith)
firsts-all (suc k) (n ∷ ns) h = ap (λ (l : List ℕ). n ∷ l) (firsts-all k ns (omega arith))

firsts-small : (k : ℕ) (ns : List ℕ) (i : ℕ) → Each (λ n. n ≤ 65535) ns → get_or (firsts k ns) i 0 ≤ 65535
unfolding firsts
firsts-small zero ns i a = omega arith
firsts-small (suc k) [] zero a = omega arith
firsts-small (suc k) [] (suc i) a = firsts-small k [] i a
firsts-small (suc k) (n ∷ ns) zero (more p a) = p
firsts-small (suc k) (n ∷ ns) (suc i) (more p a) = firsts-small k ns i a

module _ {w : Words} (p : Proper w) where
  pub numbers-long : length w.numbers ≡ 20
  numbers-long = ap length p.placed ∙ firsts-long 20 p.own

  -- of at most twenty numbers all are in their places
  pub own-taken : w.count ≤ 20 → take w.count w.numbers ≡ p.own
  own-taken h = rw (p.placed, p.counted) (firsts-all 20 p.own (omega (arith, p.counted)))

  -- each of its places is a number of 16 bits
  pub place-small : (i : ℕ) → get_or w.numbers i 0 ≤ 65535
  place-small i = rw p.placed (firsts-small 20 p.own i p.small)
