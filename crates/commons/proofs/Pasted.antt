-- Places laid one by one from another list are its front pasted in; and where they are all places, they are its front. Assumes nothing.
use Prim.Native.Nat.{ℕ, zero, suc, ◌+◌, ◌-◌, ◌≤◌, min}
use native.Mathlib.Nat.{zero-add}
use native.Mathlib.Omega.{arith}
use mathlib.Core.Path.{◌≡◌, sym, ap, ◌∙◌}
use mathlib.Core.List.{List, ◌++◌, append-nil}
use lib.ListN.{get_or, set, length, take, drop, replicate, drop_of_length-le}
use lib.Seq.{paste, paste-zero, paste-suc}
use borrow.Rule.Slice.PartMut.{put_mid}
use Rattle.std.proofs.lemmas.List.{drop-drop, get_or-take, get_or-drop, length-take, length-drop, length-replicate, get_or-replicate}
use Rattle.std.proofs.lemmas.List.Edits.{paste_all}
use Rattle.commons.specs.Filled.{filled, laid, copied}
use Rattle.commons.proofs.Filled.{filled_cong, laid_cong, laid_filled, copied-whole}

module _ {A : Type 0} (d : A) where
  pub laid_pasted : (at : ℕ) (l s : List A) (k : ℕ) → at + k ≤ length l → k ≤ length s → laid at k l (λ i. get_or s i d) ≡ paste l at s k
  unfolding laid
  laid_pasted at l s zero h g = paste-zero l at s
  laid_pasted at l s (suc k) h g =
      (λ j. set (laid_pasted at l s k (omega arith) (omega arith) j) (at + k) (get_or s k d)) ∙ paste-suc l at s k d (omega arith) (omega arith)

  pub copied_pasted : (at : ℕ) (l s : List A) (n : ℕ) → at + n ≤ length l → n ≤ length s → copied d at l 0 s n ≡ paste l at s n
  copied_pasted at l s n h g =
      copied-whole d at l 0 s n h (omega arith) ∙ laid_cong at l _ _ n (λ i b. ap (λ (k : ℕ). get_or s k d) (zero-add i)) ∙ laid_pasted at l s n h g

  -- all of l is filled
  pub filled-front : (l s : List A) (k : ℕ) → length l ≡ k → k ≤ length s → filled k l (λ i. get_or s i d) ≡ take k s
  filled-front l s k e g =
      let z : 0 + k ≡ k = omega arith in
      sym (laid_filled l (λ i. get_or s i d) k) ∙ laid_pasted 0 l s k (omega arith) g ∙ rw (z, drop_of_length-le l {i = k} (omega arith)) (append-nil (take k s))

  -- a part of l, from `at` on, with as many places of s from `from` on in its place
  pub laid-put : (at : ℕ) (l : List A) (from : ℕ) (s : List A) (n m : ℕ) → m ≡ min n (min (length s - from) (length l - at)) → (m ≡ 0 → ⊥) → put_mid at (at + m - at) l (take (from + m - from) (drop from s)) ≡ laid at m l (λ k. get_or s (from + k) d)
  laid-put at l from s n m e h =
      let p : List A = take m (drop from s) in
      let a : at + m - at ≡ m = omega arith in
      let b : from + m - from ≡ m = omega arith in
      let long : m ≡ length p = omega (arith, length-take m (drop from s), length-drop from s) in
      (λ i. put_mid at (a i) l (take (b i) (drop from s)))
      ∙ (λ i. take at l ++ (p ++ drop-drop m at l i))
      ∙ sym (paste_all l at p m long)
      ∙ sym (laid_pasted at l p m (omega arith) (omega arith))
      ∙ laid_cong at l _ _ m (λ i g. get_or-take m (drop from s) i d g ∙ get_or-drop from s i d)

  -- the same value n times, and what stands behind it
  pub filled-same : (l : List A) (n : ℕ) (z : A) → n ≤ length l → replicate n z ++ drop n l ≡ filled n l (λ k. z)
  filled-same l n z h =
      let s : List A = replicate n z in
      let long : n ≡ length s = sym (length-replicate n z) in
      (λ i. s ++ drop (sym (zero-add n) i) l)
      ∙ sym (paste_all l 0 s n long)
      ∙ sym (laid_pasted 0 l s n (omega arith) (omega arith))
      ∙ laid_filled l (λ i. get_or s i d) n
      ∙ filled_cong l _ _ n (λ k b. get_or-replicate n k z d b)
