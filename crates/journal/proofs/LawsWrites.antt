-- Laws of a hand that is written. Assumes nothing.
use Prim.Native.Nat.{ℕ, zero, suc, ◌+◌, ◌*◌, ◌-◌, ◌≤◌}
use native.Mathlib.Omega.{arith}
use mathlib.Core.Path.{◌≡◌, refl}
use mathlib.Core.Bool.{Bool, true, false, cond, not, ◌&&◌, ◌||◌}
use mathlib.Core.Logic.{◌⊎◌}
use mathlib.Core.List.{List, [], ◌∷◌}
use borrow.Author.Tests.{ltb-false}
use lib.Dec.{eqb, ltb}
use lib.ListN.{length, take, drop}
use Rattle.journal.specs.Block.{is_edition, bit, block_of}
use Rattle.keys.specs.Keys.{is_key}
use Rattle.journal.specs.Lines.{spells}
use Rattle.journal.specs.Hand.{block_count, piece, block_at, writes}
use Rattle.journal.specs.declared.block.Title.{Title}
use Rattle.refusals.specs.declared.JournalError.TheVariants.{BadJournal, NotKept}
use Rattle.std.specs.Prelude.{Ok, Err}
use Rattle.journal.proofs.LawsBack.{block-long}
use Rattle.journal.proofs.LawsHand.{same-piece}

pub take-most : (m : ℕ) (l : List ℕ) → length (take m l) ≤ m
take-most zero l = omega arith
take-most (suc m) [] = omega arith
take-most (suc m) (x ∷ l) = omega (arith, take-most m l)

pub at_long : (k : Title) (ws : List ℕ) (n i : ℕ) → length (block_at k ws n i) ≡ 512
unfolding block_at
at_long k ws n i = block-long k i (bit (eqb (i + 1) n)) (piece 120 ws i) (take-most 120 (drop (120 * i) ws))

-- the block that is laid from a part of the tape
pub at_block : (k : Title) (ws : List ℕ) (n i end : ℕ) → (120 * i ≤ end) × (end ≤ length ws) × (end ≤ 120 * i + 120) → (end ≡ length ws) ⊎ (end ≡ 120 * i + 120)
    → block_of k i (bit (eqb (i + 1) n)) (take (end - 120 * i) (drop (120 * i) ws)) ≡ block_at k ws n i
unfolding block_at
at_block k ws n i end h cut = rw (same-piece ws (120 * i) end i refl h.0 h.1 h.2 cut)

-- what the writer takes is as long as this, and needs so many blocks
pub written : (k : Title) (ws : List ℕ) (n : ℕ) → writes k ws ≡ Ok n → (n ≡ block_count (length ws)) × (length ws ≤ 30600)
unfolding writes
written k ws n = at (is_edition k.edition && spells ws) (not (is_key k.key)) (ltb 30600 (length ws)) refl
  where
    at : (a k l : Bool) → ltb 30600 (length ws) ≡ l → cond a (cond (k || l) (Err NotKept) (Ok (block_count (length ws)))) (Err BadJournal) ≡ Ok n
        → (n ≡ block_count (length ws)) × (length ws ≤ 30600)
    at true false false q e = (cc, ltb-false 30600 (length ws) q)
    at true false true q e = absurd (let z : ◌≡◌ {A = ℕ} 0 1 = cc in omega arith)
    at true true l q e = absurd (let z : ◌≡◌ {A = ℕ} 0 1 = cc in omega arith)
    at false k l q e = absurd (let z : ◌≡◌ {A = ℕ} 0 1 = cc in omega arith)
