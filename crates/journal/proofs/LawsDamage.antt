-- What the check finds: every change of one byte but 0 to 255 and back, which is 0 modulo 255 in both sums, and so every damage of one bit.
-- Assumes nothing.
use Prim.Native.Nat.{ℕ, zero, suc, ◌+◌, ◌*◌, ◌-◌, ◌≤◌, ◌<◌, ◌%◌, ◌^◌}
use native.Mathlib.Nat.{eq-or-lt_of_le, le_of_suc-le-suc, add-mul-mod_self_right}
use native.Mathlib.Omega.{arith}
use mathlib.Core.Path.{◌≡◌, refl, sym, ap, ◌∙◌}
use mathlib.Core.Bool.{true, false}
use mathlib.Core.Logic.{⊎_elim, ◌⊎◌, inl, inr}
use mathlib.Core.List.{List}
use lib.ListN.{length, set}
use lib.Seq.{get_or-set_same, get_or-set_other}
use Rattle.journal.specs.Check.{byte, sum_of, run_of, sum_check, run_check}
use Rattle.journal.specs.Block.{block_ok}
use Rattle.commons.proofs.Bools.{either}
use Rattle.commons.proofs.Order.{lt_or_le}
use Rattle.journal.proofs.LawsBlock.{ok-length, ok-sum, ok_run}

power : (k : ℕ) → k < 8 → (0 < 2 ^ k) × (2 ^ k < 255)
power zero l = (omega arith, omega arith)
power (suc zero) l = (omega arith, omega arith)
power (suc (suc zero)) l = (omega arith, omega arith)
power (suc (suc (suc zero))) l = (omega arith, omega arith)
power (suc (suc (suc (suc zero)))) l = (omega arith, omega arith)
power (suc (suc (suc (suc (suc zero))))) l = (omega arith, omega arith)
power (suc (suc (suc (suc (suc (suc zero)))))) l = (omega arith, omega arith)
power (suc (suc (suc (suc (suc (suc (suc zero))))))) l = (omega arith, omega arith)
power (suc (suc (suc (suc (suc (suc (suc (suc k)))))))) l = absurd (omega arith)

-- two bytes that differ, and not by 255
abbrev pub Apart : ℕ → ℕ → Type 0
Apart x v = ((x < v) × (v < x + 255)) ⊎ ((v < x) × (x < v + 255))

module _ (b : List ℕ) (i v : ℕ) (h : i < length b) where
  sum-before : (k : ℕ) → k ≤ i → sum_of k (set b i v) ≡ sum_of k b
  unfolding sum_of
  sum-before zero g = refl
  sum-before (suc k) g = rw (sum-before k (omega arith), get_or-set_other b i k v 0 (λ e. omega arith))

  sum_past : (k : ℕ) → i < k → sum_of k (set b i v) + byte b i ≡ sum_of k b + v
  unfolding sum_of
  sum_past zero g = absurd (omega arith)
  sum_past (suc k) g =
      ⊎_elim
      (λ (e : i ≡ k). rw (sym e, sum-before i (omega arith), get_or-set_same b i v 0 h) (omega arith))
      (λ (l : i < k). rw (get_or-set_other b i k v 0 (λ e. omega arith)) (omega (arith, sum_past k l)))
      (eq-or-lt_of_le (le_of_suc-le-suc g))

  run_before : (k : ℕ) → k ≤ i → run_of k (set b i v) ≡ run_of k b
  unfolding run_of
  run_before zero g = refl
  run_before (suc k) g = rw (run_before k (omega arith), sum-before (suc k) g)

-- remainders that agree
no_agree : (s t x v : ℕ) → t + x ≡ s + v → Apart x v → t % 255 ≡ s % 255 → ⊥
no_agree s t x v e (inl (l, g)) f = omega arith
no_agree s t x v e (inr (l, g)) f = omega arith

module _ (b : List ℕ) (ok : block_ok b ≡ true) (i v : ℕ) (h : i < 512) where
  not-both : (Apart (byte b i) v) → block_ok (set b i v) ≡ true → ⊥
  unfolding sum_check run_check
  not-both a ok' =
      let n : i < length b = omega (arith, ok-length b ok) in
      ⊎_elim
      (λ (l : i < 510).
      let s : sum_of 510 (set b i v) % 255 ≡ sum_of 510 b % 255 = sym (ok-sum (set b i v) ok') ∙ get_or-set_other b i 510 v 0 (λ e. omega arith) ∙ ok-sum b ok in
      no_agree (sum_of 510 b) (sum_of 510 (set b i v)) (byte b i) v (sum_past b i v n 510 l) a s)
      (λ (l : 510 ≤ i).
      ⊎_elim
      (λ (q : 510 ≡ i).
      let s : v ≡ byte b i = sym (get_or-set_same b i v 0 n) ∙ ap (byte (set b i v)) (sym q) ∙ ok-sum (set b i v) ok' ∙ ap (λ (m : ℕ). m % 255) (sum-before b i v n 510 l) ∙ sym (ok-sum b ok) ∙ ap (byte b) q in
      same s a)
      (λ (q : 510 < i).
      let j : 511 ≡ i = omega arith in
      let s : v ≡ byte b i = sym (get_or-set_same b i v 0 n) ∙ ap (byte (set b i v)) (sym j) ∙ ok_run (set b i v) ok' ∙ ap (λ (m : ℕ). m % 255) (run_before b i v n 510 l) ∙ sym (ok_run b ok) ∙ ap (byte b) j in
      same s a)
      (eq-or-lt_of_le l))
      (lt_or_le i 510)
    where
      same : v ≡ byte b i → Apart (byte b i) v → ⊥
      same e (inl (l, g)) = omega arith
      same e (inr (l, g)) = omega arith

  pub found : Apart (byte b i) v → block_ok (set b i v) ≡ false
  found a = ⊎_elim (λ t. absurd (not-both a t)) (λ f. f) (either (block_ok (set b i v)))

  -- a change of one byte but 0 to 255 and back
  pub byte-found : byte b i < 256 → v < 256 → (byte b i ≡ v → ⊥) → (((byte b i ≡ 0) × (v ≡ 255)) ⊎ ((byte b i ≡ 255) × (v ≡ 0)) → ⊥) → block_ok (set b i v) ≡ false
  byte-found hx hv ne spare = found (⊎_elim (λ (l : byte b i < v). inl (l, up l)) (λ (l : v ≤ byte b i). inr (below l, down l)) (lt_or_le (byte b i) v))
    where
      below : v ≤ byte b i → v < byte b i
      below l = ⊎_elim (λ (e : v ≡ byte b i). absurd (ne (sym e))) (λ g. g) (eq-or-lt_of_le l)

      up : byte b i < v → v < byte b i + 255
      up l = ⊎_elim (λ g. g) (λ (g : byte b i + 255 ≤ v). absurd (spare (inl (omega arith, omega arith)))) (lt_or_le v (byte b i + 255))

      down : v ≤ byte b i → byte b i < v + 255
      down l = ⊎_elim (λ g. g) (λ (g : v + 255 ≤ byte b i). absurd (spare (inr (omega arith, omega arith)))) (lt_or_le (byte b i) (v + 255))

  -- a damage of one bit: bit k was added or taken away
  pub bit_found : (k : ℕ) → k < 8 → (v ≡ byte b i + 2 ^ k) ⊎ (byte b i ≡ v + 2 ^ k) → block_ok (set b i v) ≡ false
  bit_found k l (inl e) = found (inl (omega (arith, power k l), omega (arith, power k l)))
  bit_found k l (inr e) = found (inr (omega (arith, power k l), omega (arith, power k l)))

-- and no other is found by the check: 255 in the place of 0 leaves both sums as they are, modulo 255
module _ (b : List ℕ) (i : ℕ) (h : i < length b) (z : byte b i ≡ 0) where
  run_past : (k : ℕ) → i ≤ k → run_of k (set b i 255) ≡ run_of k b + (k - i) * 255
  unfolding run_of
  run_past zero g = let e : i ≡ 0 = omega arith in let f : (0 - i) * 255 ≡ 0 = omega arith in rw f
  run_past (suc k) g =
      ⊎_elim
      (λ (e : i ≡ suc k). let f : (suc k - i) * 255 ≡ 0 = omega arith in rw f (run_before b i 255 h (suc k) (omega arith) ∙ omega arith))
      (λ (l : i < suc k). omega (arith, run_past k (le_of_suc-le-suc l), sum_past b i 255 h (suc k) l))
      (eq-or-lt_of_le g)

  pub sum_same : i < 510 → sum_check (set b i 255) ≡ sum_check b
  unfolding sum_check
  sum_same l = let e : sum_of 510 (set b i 255) ≡ sum_of 510 b + 1 * 255 = omega (arith, sum_past b i 255 h 510 l) in rw e (add-mul-mod_self_right (sum_of 510 b) 1 255)

  pub run_same : i < 510 → run_check (set b i 255) ≡ run_check b
  unfolding run_check
  run_same l = rw (run_past 510 (omega arith)) (add-mul-mod_self_right (run_of 510 b) (510 - i) 255)
