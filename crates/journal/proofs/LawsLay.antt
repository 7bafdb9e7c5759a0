-- Laws of a block that is laid alone: by its tests, and by the room. Assumes nothing.
use Prim.Native.Nat.{ℕ, ◌*◌, ◌-◌, ◌≤◌, ◌<◌, min}
use native.Mathlib.Omega.{arith}
use mathlib.Core.Path.{◌≡◌, refl, sym, ap, ◌∙◌}
use mathlib.Core.Bool.{Bool, true, false, cond, not, ◌&&◌, ◌||◌}
use mathlib.Core.Logic.{⊎_elim}
use mathlib.Core.List.{List}
use borrow.Author.Tests.{le-leb, lt-leb, ltb-false}
use lib.Dec.{ltb, leb}
use lib.ListN.{length, take}
use lib.Seq.{take_all, length-take-le}
use Rattle.commons.proofs.Bools.{or_neither}
use Rattle.commons.proofs.Order.{lt_or_le}
use Rattle.refusals.specs.declared.JournalError.{JournalError}
use Rattle.refusals.specs.declared.JournalError.TheVariants.{BadJournal, NotKept}
use Rattle.keys.specs.Keys.{is_key}
use Rattle.journal.specs.Block.{is_edition}
use Rattle.journal.specs.Lay.{all_entries, lays}
use Rattle.journal.specs.declared.block.Title.{Title}
use Rattle.std.specs.Prelude.{Result, Ok, Err}
use Rattle.journal.specs.declared.laying.Laid.{Laid}
use Rattle.journal.specs.declared.laying.Laid.TheVariants.{More, Last}

-- ---- the entries of the block
module _ (ws : List ℕ) (used : ℕ) (u : used ≡ min (length ws) 120) where
  pub front_long : used ≡ length (take used ws)
  front_long = sym (length-take-le used ws (omega arith))

  pub front-most : length (take used ws) ≤ 120
  front-most = omega (arith, front_long)

  pub front : take used ws ≡ take 120 ws
  front = ⊎_elim (λ h. long h) (λ h. ap (λ (n : ℕ). take n ws) (let e : used ≡ 120 = omega arith in e)) (lt_or_le (length ws) 120)
    where
      long : length ws < 120 → take used ws ≡ take 120 ws
      long h = take_all used ws (omega arith) ∙ sym (take_all 120 ws (omega arith))

-- ---- test by test
module _ (k : Title) (i : ℕ) (ws : List ℕ) where
  abbrev pub right : Bool
  right = is_edition k.edition && (leb 1 (length ws) && all_entries (take 120 ws))

  pub tests : (used : ℕ) → used ≡ min (length ws) 120 → (edition entries t : Bool) → edition ≡ is_edition k.edition → entries ≡ all_entries (take used ws)
      → edition && (leb 1 (length ws) && entries) ≡ t → right ≡ t
  tests used u edition entries t e a h = sym (λ j. e j && (leb 1 (length ws) && (a ∙ ap all_entries (front ws used u)) j)) ∙ h

  pub full : (key : Bool) (left : ℕ) (t : Bool) → key ≡ is_key k.key → left ≡ 30600 - 120 * i → not key || ltb left (length ws) ≡ t
      → not (is_key k.key) || ltb (30600 - 120 * i) (length ws) ≡ t
  full key left t q l h = sym (λ j. not (q j) || ltb (l j) (length ws)) ∙ h

  pub no_block : right ≡ false → Err BadJournal ≡ lays k i ws
  unfolding lays
  no_block h = simp h

  module _ (ok : right ≡ true) where
    pub not-kept : not (is_key k.key) || ltb (30600 - 120 * i) (length ws) ≡ true → Err NotKept ≡ lays k i ws
    unfolding lays
    not-kept h = simp (ok, h)

    module _ (kept : not (is_key k.key) || ltb (30600 - 120 * i) (length ws) ≡ false) where
      pub is_last : length ws ≤ 120 → Ok Last ≡ lays k i ws
      unfolding lays
      is_last h = simp (ok, kept, le-leb (length ws) 120 h)

      pub is-more : 120 < length ws → Ok More ≡ lays k i ws
      unfolding lays
      is-more h = simp (ok, kept, lt-leb (length ws) 120 h)

-- ---- and back: what is laid has passed the tests
abbrev told : Result Laid JournalError → ℕ
told (Err e) = 0
told (Ok More) = 1
told (Ok Last) = 2

module _ (k : Title) (i : ℕ) (ws : List ℕ) (t : Bool) (e : lays k i ws ≡ Ok (cond t Last More)) where
  -- each test that `lays` asks, and which answer it is
  pub laid_by : (right k i ws ≡ true) × (not (is_key k.key) || ltb (30600 - 120 * i) (length ws) ≡ false) × (leb (length ws) 120 ≡ t)
  unfolding lays
  laid_by = at (right k i ws) (not (is_key k.key) || ltb (30600 - 120 * i) (length ws)) (leb (length ws) 120) t e
    where
      at : (a o l t : Bool) → cond a (cond o (Err NotKept) (Ok (cond l Last More))) (Err BadJournal) ≡ Ok (cond t Last More) → (a ≡ true) × (o ≡ false) × (l ≡ t)
      at true false true true e = (refl, refl, refl)
      at true false false false e = (refl, refl, refl)
      at true false true false e = absurd (let z : ◌≡◌ {A = ℕ} 2 1 = ap told e in omega arith)
      at true false false true e = absurd (let z : ◌≡◌ {A = ℕ} 1 2 = ap told e in omega arith)
      at true true l true e = absurd (let z : ◌≡◌ {A = ℕ} 0 2 = ap told e in omega arith)
      at true true l false e = absurd (let z : ◌≡◌ {A = ℕ} 0 1 = ap told e in omega arith)
      at false o l true e = absurd (let z : ◌≡◌ {A = ℕ} 0 2 = ap told e in omega arith)
      at false o l false e = absurd (let z : ◌≡◌ {A = ℕ} 0 1 = ap told e in omega arith)

  -- the blocks from i to 254 hold what is left
  pub laid-room : length ws ≤ 30600 - 120 * i
  laid-room = ltb-false (30600 - 120 * i) (length ws) (or_neither (not (is_key k.key)) _ laid_by.1).1
