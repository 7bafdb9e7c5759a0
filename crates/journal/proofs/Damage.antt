-- What the check finds in a hand: every damage of one bit, and every change of one byte but 0 to 255 and back, is 27. Assumes nothing.
use Prim.Native.Nat.{ℕ, zero, suc, ◌+◌, ◌*◌, ◌<◌, ◌/◌, ◌%◌, ◌^◌}
use native.Mathlib.Omega.{arith}
use mathlib.Core.Path.{◌≡◌, refl, sym, ap, ◌∙◌}
use mathlib.Core.Bool.{true, false}
use mathlib.Core.Logic.{⊎_elim, ◌⊎◌, inl, inr}
use mathlib.Core.List.{List, [], ◌∷◌}
use borrow.Author.Tests.{eqb-true, eqb-false}
use lib.Dec.{eqb}
use lib.Seq.{get_or-set_same, get_or-set_other}
use lib.ListN.{length, set, take, drop, length-set}
use Rattle.commons.proofs.Bools.{either, differ, never}
use Rattle.refusals.specs.declared.JournalError.TheVariants.{BadJournal}
use Rattle.journal.specs.Check.{byte}
use Rattle.journal.specs.Block.{block_ok}
use Rattle.journal.specs.Hand.{piece, blocks_in, hand_ok, reads}
use Rattle.journal.specs.declared.hand.HandHead.{HandHead}
use Rattle.std.specs.Prelude.{Ok, Err}
use Rattle.journal.proofs.LawsDamage.{byte-found, bit_found}
use Rattle.journal.proofs.LawsReads.{piece_byte}
use Rattle.journal.proofs.LawsUnique.{whole, block-ok}
use Rattle.journal.proofs.Hands.{read_ok}

-- ---- a byte that is changed, as its block sees it
drop-set : (b : List ℕ) (m r v : ℕ) → drop m (set b (m + r) v) ≡ set (drop m b) r v
drop-set b zero r v = let e : 0 + r ≡ r = omega arith in rw e
drop-set [] (suc m) r v = refl
drop-set (x ∷ b) (suc m) r v = let e : suc m + r ≡ suc (m + r) = omega arith in rw e (drop-set b m r v)

take-set : (b : List ℕ) (m r v : ℕ) → take m (set b r v) ≡ set (take m b) r v
take-set b zero r v = refl
take-set [] (suc m) r v = refl
take-set (x ∷ b) (suc m) zero v = refl
take-set (x ∷ b) (suc m) (suc r) v = ap (λ (l : List ℕ). x ∷ l) (take-set b m r v)

piece-set : (b : List ℕ) (i v : ℕ) → piece 512 (set b i v) (i / 512) ≡ set (piece 512 b (i / 512)) (i % 512) v
piece-set b i v =
    let e : i ≡ 512 * (i / 512) + i % 512 = omega arith in
    ap (λ (k : ℕ). take 512 (drop (512 * (i / 512)) (set b k v))) e
    ∙ ap (take 512) (drop-set b (512 * (i / 512)) (i % 512) v)
    ∙ take-set (drop (512 * (i / 512)) b) 512 (i % 512) v

-- ---- the hand
module _ (b : List ℕ) (small : (i : ℕ) → byte b i < 256) (h : HandHead) (e : reads b ≡ Ok h) (i v : ℕ) (l : i < length b) (f : v < 256) where
  ok : hand_ok b ≡ true
  ok = (read_ok b h e).0

  abbrev block : List ℕ
  block = piece 512 b (i / 512)

  inside : i / 512 < blocks_in b
  inside = let n = whole b small ok in omega arith

  good : block_ok block ≡ true
  good = block-ok b small ok (i / 512) inside

  same : byte block (i % 512) ≡ byte b i
  same = let q : 512 * (i / 512) + i % 512 ≡ i = omega arith in piece_byte b (i / 512) (i % 512) (omega arith) ∙ ap (byte b) q

  changed-small : (j : ℕ) → byte (set b i v) j < 256
  changed-small j =
      ⊎_elim
      (λ q. let r = eqb-true j i q in rw r (rw (get_or-set_same b i v 0 l) f))
      (λ q. rw (get_or-set_other b i j v 0 (eqb-false j i q)) (small j))
      (either (eqb j i))

  -- a block that is found out is the hand's refusal
  refused : block_ok (set block (i % 512) v) ≡ false → reads (set b i v) ≡ Err BadJournal
  unfolding reads
  refused g = let n : hand_ok (set b i v) ≡ false = never (hand_ok (set b i v)) (λ t. differ (block_ok (piece 512 (set b i v) (i / 512))) (block-ok (set b i v) changed-small t (i / 512) (rw (length-set b i v) inside)) (ap block_ok (piece-set b i v) ∙ g)) in simp n

  pub hand-byte-found : (byte b i ≡ v → ⊥) → (((byte b i ≡ 0) × (v ≡ 255)) ⊎ ((byte b i ≡ 255) × (v ≡ 0)) → ⊥) → reads (set b i v) ≡ Err BadJournal
  hand-byte-found ne spare = refused (byte-found block good (i % 512) v (omega arith) (rw same (small i)) f (λ q. ne (sym same ∙ q)) (λ q. spare (turn q)))
    where
      turn : ((byte block (i % 512) ≡ 0) × (v ≡ 255)) ⊎ ((byte block (i % 512) ≡ 255) × (v ≡ 0)) → ((byte b i ≡ 0) × (v ≡ 255)) ⊎ ((byte b i ≡ 255) × (v ≡ 0))
      turn (inl (a, c)) = inl (sym same ∙ a, c)
      turn (inr (a, c)) = inr (sym same ∙ a, c)

  pub hand-bit-found : (k : ℕ) → k < 8 → (v ≡ byte b i + 2 ^ k) ⊎ (byte b i ≡ v + 2 ^ k) → reads (set b i v) ≡ Err BadJournal
  hand-bit-found k g q = refused (bit_found block good (i % 512) v (omega arith) k g (turn q))
    where
      turn : (v ≡ byte b i + 2 ^ k) ⊎ (byte b i ≡ v + 2 ^ k) → (v ≡ byte block (i % 512) + 2 ^ k) ⊎ (byte block (i % 512) ≡ v + 2 ^ k)
      turn (inl a) = inl (a ∙ ap (λ (x : ℕ). x + 2 ^ k) (sym same))
      turn (inr a) = inr (same ∙ a)
