-- Laws of a line: what it asks tells its letter and its count of numbers; which accepted lines open a hand, which go in, and which are left out.
-- Assumes nothing.
use Prim.Native.Nat.{ℕ, ◌≤◌}
use Prim.Native.Char.{code}
use native.Mathlib.Omega.{arith}
use mathlib.Core.Path.{◌≡◌, sym, ap, ◌∙◌, subst}
use mathlib.Core.Logic.{◌≢◌, ⊎_elim}
use mathlib.Core.Bool.{Bool, true, false, not, ◌&&◌}
use borrow.Author.Tests.{eqb-true, eqb-false, eq-eqb, leb-true, not-true}
use lib.Dec.{eqb, leb}
use lib.ListN.{get_or}
use Rattle.std.specs.Prelude.{Result, Ok, Err}
use Rattle.refusals.specs.declared.AddedError.{AddedError}
use Rattle.refusals.specs.declared.AddedError.TheVariants.{BadLine}
use Rattle.commons.proofs.Bools.{either, differ, never, and_both, tested}
use Rattle.script.specs.declared.line.Words.{Words}
use Rattle.script.specs.declared.line.Line.{Line}
use Rattle.script.specs.declared.line.Line.TheVariants.{Table, Advance, Fold, Bet, Forced, Complete, Settle, Key}
use Rattle.script.specs.Ascii.{is}
use Rattle.script.specs.Line.{only_if, asked, meaning_of}
use Rattle.console.specs.declared.act.State.{State}
use Rattle.console.specs.Act.{act_number, done, act_of}
use Rattle.recorder.specs.Hands.{answered, opens, goes_in}

-- ---- what a line asks, with its letter and its count of numbers
pub data Asks (letter count x : ℕ) : Result Line AddedError → Type 0 where
  table : letter ≡ code "t" → 4 ≤ count → Asks letter count x (Ok Table)
  advance : letter ≡ code "n" → count ≡ 0 → Asks letter count x (Ok Advance)
  fold : letter ≡ code "f" → count ≡ 0 → Asks letter count x (Ok Fold)
  bet : letter ≡ code "b" → count ≡ 1 → Asks letter count x (Ok (Bet x))
  forced : letter ≡ code "p" → count ≡ 1 → Asks letter count x (Ok (Forced x))
  complete : letter ≡ code "x" → count ≡ 0 → Asks letter count x (Ok Complete)
  settle : letter ≡ code "w" → Asks letter count x (Ok Settle)
  key : letter ≡ code "k" → count ≡ 3 → Asks letter count x (Ok Key)
  bad : Asks letter count x (Err BadLine)

module _ (l n x : ℕ) where
  abbrev A : Result Line AddedError → Type 0
  A = Asks l n x

  only : (b : Bool) (m : Line) → (b ≡ true → A (Ok m)) → A (only_if b m)
  only b m f = tested A b (Ok m) (Err BadLine) f (λ e. bad)

  asks : A (asked l n x)
  unfolding asked
  asks =
      tested A (is l "t") _ _ (λ e. only (leb 4 n) Table (λ f. table (eqb-true _ _ e) (leb-true _ _ f))) (λ _.
      tested A (is l "n") _ _ (λ e. only (eqb n 0) Advance (λ f. advance (eqb-true _ _ e) (eqb-true _ _ f))) (λ _.
      tested A (is l "f") _ _ (λ e. only (eqb n 0) Fold (λ f. fold (eqb-true _ _ e) (eqb-true _ _ f))) (λ _.
      tested A (is l "b") _ _ (λ e. only (eqb n 1) (Bet x) (λ f. bet (eqb-true _ _ e) (eqb-true _ _ f))) (λ _.
      tested A (is l "p") _ _ (λ e. only (eqb n 1) (Forced x) (λ f. forced (eqb-true _ _ e) (eqb-true _ _ f))) (λ _.
      tested A (is l "x") _ _ (λ e. only (eqb n 0) Complete (λ f. complete (eqb-true _ _ e) (eqb-true _ _ f))) (λ _.
      tested A (is l "w") _ _ (λ e. settle (eqb-true _ _ e)) (λ _.
      tested A (is l "k") _ _ (λ e. only (eqb n 3) Key (λ f. key (eqb-true _ _ e) (eqb-true _ _ f))) (λ _. bad))))))))

pub asks_it : (w : Words) → Asks w.letter w.count (get_or w.numbers 0 0) (meaning_of w)
asks_it w = asks w.letter w.count (get_or w.numbers 0 0)

table-asked : {l n x : ℕ} → Asks l n x (Ok Table) → (l ≡ code "t") × (4 ≤ n)
table-asked (table e f) = (e, f)

key-asked : {l n x : ℕ} → Asks l n x (Ok Key) → l ≡ code "k"
key-asked (key e f) = e

module _ (w : Words) where
  asks_as : {m : Result Line AddedError} → meaning_of w ≡ m → Asks w.letter w.count (get_or w.numbers 0 0) m
  asks_as e = subst (Asks w.letter w.count (get_or w.numbers 0 0)) e (asks_it w)

  pub table-letter : meaning_of w ≡ Ok Table → w.letter ≡ code "t"
  table-letter e = (table-asked (asks_as e)).0

  pub table-count : meaning_of w ≡ Ok Table → 4 ≤ w.count
  table-count e = (table-asked (asks_as e)).1

  pub key-letter : meaning_of w ≡ Ok Key → w.letter ≡ code "k"
  key-letter e = key-asked (asks_as e)

  module _ (s : State) where
    -- what is accepted asks something
    pub not-bad : answered w s ≡ 0 → meaning_of w ≡ Err BadLine → ⊥
    unfolding act_of
    not-bad z e = let y : ◌≡◌ {A = ℕ} 25 0 = sym (ap (λ (m : Result Line AddedError). act_number (done s w m)) e) ∙ z in omega arith

    right-count : (m : Line) (b : Bool) → answered w s ≡ 0 → meaning_of w ≡ only_if b m → meaning_of w ≡ Ok m
    right-count m true z e = e
    right-count m false z e = absurd (not-bad z e)

    is-table : w.letter ≡ code "t" → answered w s ≡ 0 → meaning_of w ≡ Ok Table
    unfolding asked
    is-table e z = right-count Table (leb 4 w.count) z (ap (λ (l : ℕ). asked l w.count (get_or w.numbers 0 0)) e)

    is-key : w.letter ≡ code "k" → answered w s ≡ 0 → meaning_of w ≡ Ok Key
    unfolding asked
    is-key e z = right-count Key (eqb w.count 3) z (ap (λ (l : ℕ). asked l w.count (get_or w.numbers 0 0)) e)

    -- ---- the two tests of a hand
    pub opens_so : opens w s ≡ true → (meaning_of w ≡ Ok Table) × (answered w s ≡ 0)
    unfolding opens
    opens_so e =
        let b = and_both (is w.letter "t") (eqb (answered w s) 0) e in
        let z : answered w s ≡ 0 = eqb-true _ _ b.1 in
        (is-table (eqb-true _ _ b.0) z, z)

    -- a `t` that opens nothing was refused
    pub table-refused : opens w s ≡ false → meaning_of w ≡ Ok Table → answered w s ≢ 0
    unfolding opens
    table-refused f e z = differ (is w.letter "t" && eqb (answered w s) 0) (simp (eq-eqb w.letter (code "t") (table-letter e), eq-eqb (answered w s) 0 z)) f

    -- an accepted line that opens nothing is no `t`
    pub no_table_lem : opens w s ≡ false → answered w s ≡ 0 → is w.letter "t" ≡ false
    unfolding opens
    no_table_lem f z = never (is w.letter "t") (λ (e : is w.letter "t" ≡ true). differ (is w.letter "t" && eqb (answered w s) 0) (simp (e, eq-eqb (answered w s) 0 z)) f)

    pub goes_so : goes_in w s ≡ true → (meaning_of w ≢ Ok Key) × (answered w s ≡ 0)
    unfolding goes_in
    goes_so e =
        let b = and_both (not (is w.letter "k")) (eqb (answered w s) 0) e in
        (λ k. eqb-false _ _ (not-true _ b.0) (key-letter k), eqb-true _ _ b.1)

    -- what is left out was refused, or is a `k`
    pub left_so : goes_in w s ≡ false → answered w s ≡ 0 → meaning_of w ≡ Ok Key
    unfolding goes_in
    left_so f z =
        ⊎_elim (λ e. is-key (eqb-true _ _ e) z)
        (λ (e : is w.letter "k" ≡ false). absurd (differ (not (is w.letter "k") && eqb (answered w s) 0) (simp (e, eq-eqb (answered w s) 0 z)) f)) (either (is w.letter "k"))
