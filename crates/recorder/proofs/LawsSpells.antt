-- The lines of a recorded hand are a hand of the journal: a `t` first and no other, each line with its letter's count, `w` with a rank for each stack of the `t`.
-- And each line comes back from the journal as it was typed. Assumes nothing.
use Prim.Native.Nat.{ℕ, ◌-◌, ◌≤◌}
use Prim.Native.Char.{code}
use mathlib.Core.Path.{◌≡◌, refl, sym, ap, ◌∙◌}
use mathlib.Core.Bool.{true, false}
use mathlib.Core.List.{List, [], ◌∷◌, map}
use borrow.Author.Tests.{le-leb, eq-eqb}
use lib.ListN.{length, take}
use Rattle.keys.specs.declared.HandKey.{HandKey}
use Rattle.script.specs.declared.line.Words.{Words}
use Rattle.script.specs.Ascii.{is}
use Rattle.script.specs.Words.{firsts}
use Rattle.console.specs.declared.act.State.{State}
use Rattle.console.proofs.LawsOpening.{stacks-counted}
use Rattle.journal.specs.Lines.{count_ok, all_small, rest_ok, lines_ok}
use Rattle.journal.specs.Reading.{as_played}
use Rattle.recorder.specs.Entries.{line_of}
use Rattle.recorder.specs.Hands.{after, opens, goes_in, lines_until}
use Rattle.recorder.proofs.LawsHands.{Each, none, more}
use Rattle.recorder.proofs.LawsLine.{opens_so, no_table_lem, goes_so, table-letter, table-count}
use Rattle.recorder.proofs.LawsTable.{Standing, seats-of, line-stands, stacks_in, opens-short, opens-stands}
use Rattle.recorder.proofs.LawsTakes.{line-counts, all_there, each_until}
use Rattle.recorder.proofs.LawsWords.{Proper, numbers-long, own-taken}

-- ---- a line of at most twenty numbers
all_small_lem : (ns : List ℕ) → Each (λ n. n ≤ 65535) ns → all_small ns ≡ true
unfolding all_small
all_small_lem [] none = refl
all_small_lem (n ∷ ns) (more p a) = simp (le-leb n 65535 p, all_small_lem ns a)

module _ (w : Words) (p : Proper w) (h : w.count ≤ 20) where
  small-there : all_small (take w.count w.numbers) ≡ true
  small-there = rw (own-taken p h) (all_small_lem p.own p.small)

  -- it comes back as it was
  back : as_played (line_of w) ≡ w
  back =
      let e : firsts 20 (take w.count w.numbers) ≡ w.numbers = ap (firsts 20) (own-taken p h) ∙ sym p.placed in
      λ i. record { letter = w.letter; count = all_there w p h i; numbers = e i }

-- ---- what is asked of each line after the `t`
pub record Fits (n : ℕ) (w : Words) : Type 0 where
  pub other : is w.letter "t" ≡ false
  pub counts : count_ok w.letter n (length (take w.count w.numbers)) ≡ true
  pub small : all_small (take w.count w.numbers) ≡ true
  pub same : as_played (line_of w) ≡ w

rest-fits : (n : ℕ) (ws : List Words) → Each (Fits n) ws → rest_ok n (map line_of ws) ≡ true
unfolding rest_ok
rest-fits n [] none = refl
rest-fits n (w ∷ ws) (more f a) = simp (f.other, f.counts, f.small, rest-fits n ws a)

rest_back : {n : ℕ} (ws : List Words) → Each (Fits n) ws → map as_played (map line_of ws) ≡ ws
rest_back [] none = refl
rest_back (w ∷ ws) (more f a) = λ i. f.same i ∷ rest_back ws a i

line-fits : (k : HandKey) (n : ℕ) (w : Words) (s : State) → Standing k n s → Proper w → opens w s ≡ false → goes_in w s ≡ true → Fits n w
line-fits k n w s t p f g =
    let r = line-counts w s f g n (λ u i. seats-of t u i) in
    record {
      other = no_table_lem w s f (goes_so w s g).1;
      counts = rw (all_there w p r.1) r.0;
      small = small-there w p r.1;
      same = back w p r.1;
    }

-- ---- a hand
module _ (s : State) (w : Words) (ws : List Words) (e : opens w s ≡ true) (p : Proper w) (a : Each Proper ws) where
  abbrev ls : List Words
  ls = lines_until (after w s) ws

  short : w.count ≤ 20
  short = opens-short w s e

  seats : stacks_in w ≡ w.count - 4
  seats = sym (stacks-counted w.numbers w.count _ short (numbers-long p) refl)

  all_fit : Each (Fits (stacks_in w)) ls
  all_fit = each_until Proper (Fits (stacks_in w)) (Standing s.key (stacks_in w)) (λ w s f t. line-stands w s f t) (λ v u t q f g. line-fits s.key (stacks_in w) v u t q f g) ws (after w s) (opens-stands w s e) a

  pub is-hand : lines_ok (map line_of (w ∷ ls)) ≡ true
  unfolding lines_ok
  is-hand =
      let t = (opens_so w s e).0 in
      let r : rest_ok (w.count - 4) (map line_of ls) ≡ true = rw (← seats) (rest-fits (stacks_in w) ls all_fit) in
      simp (all_there w p short, eq-eqb w.letter (code "t") (table-letter w t), le-leb 4 w.count (table-count w t), small-there w p short, r)

  pub comes_back : map as_played (map line_of (w ∷ ls)) ≡ w ∷ ls
  comes_back = λ i. back w p short i ∷ rest_back ls all_fit i
