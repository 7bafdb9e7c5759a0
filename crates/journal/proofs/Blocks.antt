-- The promises of a block: what is written reads back, and what reads is exactly what is written of it. Assumes nothing.
use Prim.Native.Nat.{ℕ, zero, suc, ◌+◌, ◌*◌, ◌≤◌, ◌<◌, ◌/◌, ◌%◌}
use native.Mathlib.Omega.{arith}
use mathlib.Core.Path.{◌≡◌, refl, sym, ap, ◌∙◌}
use mathlib.Core.Bool.{Bool, true, false}
use mathlib.Core.Logic.{⊎_elim, ◌⊎◌, inl, inr}
use mathlib.Core.List.{List}
use borrow.Author.Tests.{lt-ltb, eqb-true}
use lib.Dec.{eqb, ltb}
use lib.ListN.{length, get_or}
use Rattle.journal.specs.Check.{byte}
use Rattle.journal.specs.Entry.{letter, number, entry_bytes, entry_word, four_bytes, is_entry}
use Rattle.journal.specs.Block.{bit, block_of, title_at, entry_at, entries_from, entries_of, entry_fits, entries_fit, block_ok}
use Rattle.journal.specs.Read.{head_at, read_of}
use Rattle.journal.specs.declared.block.Title.{Title}
use Rattle.journal.specs.declared.block.Head.{Head}
use Rattle.refusals.specs.declared.JournalError.TheVariants.{BadJournal}
use Rattle.std.specs.Prelude.{Ok, Err}
use Rattle.commons.proofs.Bools.{either}
use Rattle.commons.proofs.Folds.{all-at}
use Rattle.journal.proofs.LawsBlock.{accepted, refused, ok-year, ok-index, ok-last, ok-some, ok-used, ok-full, ok-edition, ok-entries}
use Rattle.journal.proofs.LawsBack.{Fit, index_back, last-back, used-back, title-back, entries-back, written-ok}
use Rattle.journal.proofs.LawsImage.{one_image, entries-long, two-small, four-small}
use Rattle.journal.proofs.LawsPut.{four_bytes_lem}

-- a written block reads as its key, index, last bit and count, and its entries are those written
pub reads-back : (k : Title) (index last : ℕ) (ws : List ℕ) → Fit k index last ws
    → read_of (block_of k index last ws) ≡ Ok (record { title = k; index = index; last = eqb last 1; used = length ws })
reads-back k index last ws f =
    sym (accepted (block_of k index last ws) (written-ok k index last ws f))
    ∙ ap Ok (λ i. record { title = title-back k index last ws i; index = index_back k index last ws i; last = eqb (last-back k index last ws i) 1; used = used-back k index last ws i })

pub same_entries : (k : Title) (index last : ℕ) (ws : List ℕ) → Fit k index last ws → entries_of (block_of k index last ws) ≡ ws
same_entries k index last ws f = entries-back k index last ws f.most

pub from_at : (b : List ℕ) (n j i : ℕ) → i < n → get_or (entries_from b j n) i 0 ≡ entry_at b (j + i)
unfolding entries_from
from_at b zero j i h = absurd (omega arith)
from_at b (suc n) j zero h = let e : j + 0 ≡ j = omega arith in rw e
from_at b (suc n) j (suc i) h = let e : suc j + i ≡ j + suc i = omega arith in rw (sym e) (from_at b n (suc j) i (omega arith))

is-entry : (t : Bool) (w : ℕ) → t ≡ true → entry_fits t w ≡ true → is_entry w ≡ true
unfolding entry_fits
is-entry t w e h = rw e at h

bit-of : (n : ℕ) → n ≤ 1 → n ≡ bit (eqb n 1)
bit-of zero h = refl
bit-of (suc zero) h = refl
bit-of (suc (suc n)) h = absurd (omega arith)

module _ (b : List ℕ) (small : (i : ℕ) → byte b i < 256) (ok : block_ok b ≡ true) where
  entry-good : (i : ℕ) → i < byte b 10 → is_entry (entry_at b i) ≡ true
  unfolding entries_fit
  entry-good i h =
      is-entry (ltb i (byte b 10)) (entry_at b i) (lt-ltb i (byte b 10) h)
      (all-at 120 (λ i. entry_fits (ltb i (byte b 10)) (entry_at b i)) (ok-entries b ok) i (omega (arith, ok-used b ok)))

  last_or_full : (byte b 9 ≡ 1) ⊎ (byte b 10 ≡ 120)
  last_or_full = at (eqb (byte b 9) 1) refl
    where
      at : (t : Bool) → eqb (byte b 9) 1 ≡ t → (byte b 9 ≡ 1) ⊎ (byte b 10 ≡ 120)
      at true e = inl (eqb-true (byte b 9) 1 e)
      at false e = inr (eqb-true (byte b 10) 120 (rw e at (ok-full b ok)))

  -- what a block says of itself makes a block
  pub read-fit : Fit (title_at b) (byte b 8) (byte b 9) (entries_of b)
  read-fit =
      let e : length (entries_of b) ≡ byte b 10 = entries-long b 0 (byte b 10) in
      record {
        code = two-small b small 0;
        year = two-small b small 2;
        keyed = ok-year b ok;
        hand = four-small b small 4;
        edition = ok-edition b ok;
        below = ok-index b ok;
        bit = ok-last b ok;
        some = rw e (ok-some b ok);
        most = rw e (ok-used b ok);
        full = rw e last_or_full;
        entries = λ i h. rw (from_at b (byte b 10) 0 i (rw e at h)) (rw (zero_plus i) (entry-good i (rw e at h)));
      }
    where
      zero_plus : (i : ℕ) → 0 + i ≡ i
      zero_plus i = omega arith

  pub read-once : b ≡ block_of (title_at b) (byte b 8) (bit (eqb (byte b 9) 1)) (entries_of b)
  read-once = rw (sym (bit-of (byte b 9) (ok-last b ok))) (one_image b small ok)

-- what reads is the block of what it reads as
pub one_block : (b : List ℕ) (h : Head) → ((i : ℕ) → byte b i < 256) → read_of b ≡ Ok h → b ≡ block_of h.title h.index (bit h.last) (entries_of b)
one_block b h small e = at (either (block_ok b))
  where
    at : (block_ok b ≡ true) ⊎ (block_ok b ≡ false) → b ≡ block_of h.title h.index (bit h.last) (entries_of b)
    at (inl t) = let q : head_at b ≡ h = let p = accepted b t ∙ e in cc in rw (sym q) (read-once b small t)
    at (inr f) = absurd (let p = refused b f ∙ e in let z : ◌≡◌ {A = ℕ} 0 1 = cc in omega arith)

-- a block is refused exactly where a test fails, with 27
pub refused_iff : (b : List ℕ) → (read_of b ≡ Err BadJournal → block_ok b ≡ false) × (block_ok b ≡ false → read_of b ≡ Err BadJournal)
refused_iff b =
    (λ e. ⊎_elim (λ t. absurd (let p = accepted b t ∙ e in let z : ◌≡◌ {A = ℕ} 0 1 = cc in omega arith)) (λ f. f) (either (block_ok b)), λ f. sym (refused b f))

-- an entry is held as the number that its four bytes spell
pub letter-bytes : (l : ℕ) → l < 256 → four_bytes (entry_word (letter l)) ≡ entry_bytes (letter l)
unfolding four_bytes
letter-bytes l h =
    let e0 : l % 256 ≡ l = omega arith in
    let e1 : l / 256 % 256 ≡ 0 = omega arith in
    let e2 : l / 65536 % 256 ≡ 0 = omega arith in
    let e3 : l / 16777216 ≡ 0 = omega arith in
    rw (e0, e1, e2, e3)

pub number-bytes : (n : ℕ) → n < 65536 → four_bytes (entry_word (number n)) ≡ entry_bytes (number n)
number-bytes n h =
    let e : n * 65536 ≡ 0 + 0 * 256 + n % 256 * 65536 + n / 256 * 16777216 = omega arith in
    ap four_bytes e ∙ four_bytes_lem 0 0 (n % 256) (n / 256) (omega arith) (omega arith) (omega arith) (omega arith)
