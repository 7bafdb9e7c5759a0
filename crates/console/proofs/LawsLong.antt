-- Laws of a script that is too long: a part is its one line or nothing, and a line laid at the front of a buffer is a part.
-- Assumes nothing.
use Rattle.std.proofs.Common.{◌≡◌, ℕ, ◌+◌, ◌<◌, ◌≤◌, true, false, ◌||◌, ltb, leb, List, [], length, take, drop, refl, ap, ◌∙◌, arith, take_at, ltb-false, le-leb, leb-false}
use borrow.Author.Tests.{lt-leb}
use Rattle.commons.specs.Filled.{copied}
use Rattle.commons.proofs.Bools.{or_neither}
use Rattle.commons.proofs.Pasted.{copied_pasted}
use Rattle.script.specs.declared.print.Text.{Text}
use Rattle.script.specs.Text.{text_of}
use Rattle.script.proofs.LawsPrint.{text-bytes, text-size}
use Rattle.console.specs.declared.play.Console.{Console}
use Rattle.console.specs.Play.{too_long_line}
use Rattle.console.specs.Parts.{Part, part_is, part_from, refused_part, script_part, played_of, over}

-- what is left to say, and room for it
pub is-left : (n at room : ℕ) → (leb n at || ltb room 72) ≡ false → (at < n) × (72 ≤ room)
is-left n at room e = let b = or_neither (leb n at) (ltb room 72) e in (leb-false _ _ b.0, ltb-false _ _ b.1)

module _ (n at : ℕ) (c : Console) (room : ℕ) where
  pub says_nothing : (leb n at || ltb room 72) ≡ true → refused_part n at c room ≡ part_is [] at c
  unfolding refused_part
  says_nothing e = simp e

  pub says-one : (leb n at || ltb room 72) ≡ false → refused_part n at c room ≡ part_is too_long_line n c
  unfolding refused_part
  says-one e = simp e

-- a buffer as a part leaves it
module _ {p : Part} {at : ℕ} {c : Console} (d : List ℕ) where
  pub kept_so : p ≡ part_is [] at c → (record { at = at; console = c; len = 0 } ≡ played_of p) × (d ≡ over p.bytes d)
  kept_so e = (rw e refl, rw e refl)

  pub laid_so : {l : List ℕ} {t : Text} {d' : List ℕ} → p ≡ part_is l at c → t ≡ text_of l → length l ≤ 72 → 72 ≤ length d → d' ≡ copied 0 0 d 0 t.bytes t.len
      → (record { at = at; console = c; len = t.len } ≡ played_of p) × (d' ≡ over p.bytes d)
  unfolding text_of
  laid_so {l} {t} e is f h lay =
      let a : t.len ≡ length l = ap (λ (x : Text). x.len) is in
      let b : take (length l) t.bytes ≡ l = ap (λ (x : Text). take (length l) x.bytes) is ∙ text-bytes l in
      let n : length t.bytes ≡ 72 = ap (λ (x : Text). length x.bytes) is ∙ text-size l f in
      let z : 0 + length l ≡ length l = omega arith in
      let q = lay ∙ copied_pasted 0 0 d t.bytes t.len (omega arith) (omega arith) in
      (rw (e, a) refl, rw (q, e, a, b, z) refl)

-- the first bytes of the buffer are those of the part
pub written : (bs d : List ℕ) → take (length bs) (over bs d) ≡ bs
written bs d = take_at bs (drop (length bs) d) (length bs) refl

module _ (s : List ℕ) (at : ℕ) (c : Console) (room : ℕ) where
  pub part-short : length s ≤ 65536 → script_part s at c room ≡ part_from s at c room
  unfolding script_part
  part-short h = simp (le-leb (length s) 65536 h)

  pub part-long : 65536 < length s → script_part s at c room ≡ refused_part (length s) at c room
  unfolding script_part
  part-long h = simp (lt-leb (length s) 65536 h)
