-- Laws of a block that is begun: one byte, four bytes, all entries more; the two bytes of the check close it. Assumes nothing.
use Prim.Native.Nat.{ℕ, zero, suc, ◌+◌, ◌*◌, ◌-◌, ◌≤◌, ◌<◌, ◌/◌, ◌%◌}
use native.Mathlib.Numerals.{add-one}
use native.Mathlib.Omega.{arith}
use mathlib.Core.Path.{◌≡◌, refl, sym, ap, ◌∙◌}
use mathlib.Core.Bool.{Bool, true, false}
use mathlib.Core.List.{List, [], ◌∷◌, ◌++◌, append_assoc, append-nil}
use lib.ListN.{length, get_or, set, take, replicate, length-append, length-replicate, replicate-append-replicate, drop_of_length-le, get_or-append}
use lib.Seq.{set-append_seam, append_snoc, take-suc, take_all, take-length, length-take-le}
use Rattle.journal.specs.Check.{sum_of, run_of, sum_check, run_check, check_of, check_given}
use Rattle.journal.specs.Entry.{two_bytes, four_bytes, all_bytes}
use Rattle.journal.specs.Block.{bit, zeros, head_of, body_of, block_of}
use Rattle.journal.specs.Put.{begun, four_put, head_put, words_put}
use Rattle.journal.specs.declared.block.Title.{Title}
use Rattle.commons.specs.Filled.{copied}
use Rattle.commons.proofs.Pasted.{copied_pasted}
use Rattle.journal.proofs.LawsCheck.{long}

pub zeros-long : (n : ℕ) → length (zeros n) ≡ n
unfolding zeros
zeros-long n = length-replicate n 0

pub zeros-more : (n m : ℕ) → zeros n ++ zeros m ≡ zeros (n + m)
unfolding zeros
zeros-more n m = replicate-append-replicate n m 0

zeros-suc : (n m : ℕ) → n ≡ suc m → zeros n ≡ 0 ∷ zeros m
unfolding zeros
zeros-suc n m e = rw e

pub begun-long : (xs : List ℕ) → length xs ≤ 512 → length (begun xs) ≡ 512
unfolding begun
begun-long xs h = simp (length-append, zeros-long) (omega arith)

-- one byte more
begun-next : (xs : List ℕ) (i b : ℕ) → i ≡ length xs → length xs < 512 → set (begun xs) i b ≡ begun (xs ++ (b ∷ []))
unfolding begun
begun-next xs i b e h =
    let k : 512 - length xs ≡ suc (512 - length (xs ++ (b ∷ []))) = omega (arith, length-append xs (b ∷ [])) in
    rw e (ap (λ (l : List ℕ). set (xs ++ l) (length xs) b) (zeros-suc _ _ k) ∙ set-append_seam xs 0 _ b ∙ sym (append_snoc xs b _))

-- four bytes more
pub begun-four : (xs : List ℕ) (i w : ℕ) → i ≡ length xs → length xs + 4 ≤ 512 → four_put (begun xs) i w ≡ begun (xs ++ four_bytes w)
unfolding four_put four_bytes
begun-four xs i w e h =
    let a = w % 256 in
    let b = w / 256 % 256 in
    let c = w / 65536 % 256 in
    let d = w / 16777216 in
    let l1 : length (xs ++ (a ∷ [])) ≡ length xs + 1 = length-append xs (a ∷ []) in
    let l2 : length ((xs ++ (a ∷ [])) ++ (b ∷ [])) ≡ length xs + 2 = simp length-append (omega arith) in
    let l3 : length (((xs ++ (a ∷ [])) ++ (b ∷ [])) ++ (c ∷ [])) ≡ length xs + 3 = simp length-append (omega arith) in
    rw (begun-next xs i a e (omega arith)) (
    rw (begun-next (xs ++ (a ∷ [])) (i + 1) b (omega arith) (omega arith)) (
    rw (begun-next ((xs ++ (a ∷ [])) ++ (b ∷ [])) (i + 2) c (omega arith) (omega arith)) (
    rw (begun-next (((xs ++ (a ∷ [])) ++ (b ∷ [])) ++ (c ∷ [])) (i + 3) d (omega arith) (omega arith)) (
    simp append_assoc))))

-- zeros more
pub begun-zeros : (xs : List ℕ) (k : ℕ) → length xs + k ≤ 512 → begun xs ≡ begun (xs ++ zeros k)
unfolding begun
begun-zeros xs k h =
    let e : k + (512 - length (xs ++ zeros k)) ≡ 512 - length xs = omega (arith, length-append xs (zeros k), zeros-long k) in
    sym (append_assoc xs (zeros k) _ ∙ ap (λ (l : List ℕ). xs ++ l) (zeros-more k _ ∙ ap zeros e))

pub four_bytes-long : (w : ℕ) → length (four_bytes w) ≡ 4
unfolding four_bytes
four_bytes-long w = refl

pub all_bytes-long : (ws : List ℕ) → length (all_bytes ws) ≡ 4 * length ws
unfolding all_bytes
all_bytes-long [] = refl
all_bytes-long (w ∷ ws) = simp (length-append, four_bytes-long, all_bytes-long ws) (omega arith)

pub all_bytes-append : (us ws : List ℕ) → all_bytes (us ++ ws) ≡ all_bytes us ++ all_bytes ws
unfolding all_bytes
all_bytes-append [] ws = refl
all_bytes-append (u ∷ us) ws = rw (all_bytes-append us ws) (sym (append_assoc (four_bytes u) (all_bytes us) (all_bytes ws)))

all_bytes-one : (w : ℕ) → all_bytes (w ∷ []) ≡ four_bytes w
unfolding all_bytes
all_bytes-one w = append-nil (four_bytes w)

-- the first k entries
words-put : (head ws : List ℕ) (k : ℕ) → length head ≡ 16 → length ws ≤ 120 → k ≤ length ws → words_put k (begun head) ws ≡ begun (head ++ all_bytes (take k ws))
unfolding words_put all_bytes
words-put head ws zero h g i = ap begun (sym (append-nil head))
words-put head ws (suc k) h g i =
    let l : length (head ++ all_bytes (take k ws)) ≡ 16 + 4 * k = simp (length-append, h, all_bytes-long, length-take-le k ws (omega arith)) in
    rw (words-put head ws k h g (omega arith)) (
    begun-four (head ++ all_bytes (take k ws)) (16 + 4 * k) (get_or ws k 0) (sym l) (omega arith)
    ∙ ap begun (append_assoc head (all_bytes (take k ws)) (four_bytes (get_or ws k 0))
    ∙ ap (λ (m : List ℕ). head ++ m) (sym (ap all_bytes (take-suc ws k 0 i) ∙ all_bytes-append (take k ws) (get_or ws k 0 ∷ []) ∙ ap (λ (m : List ℕ). all_bytes (take k ws) ++ m) (all_bytes-one (get_or ws k 0))))))

pub words-put-all : (head ws : List ℕ) → length head ≡ 16 → length ws ≤ 120 → words_put (length ws) (begun head) ws ≡ begun (head ++ all_bytes ws)
words-put-all head ws h g = words-put head ws (length ws) h g (omega arith) ∙ ap (λ (l : List ℕ). begun (head ++ all_bytes l)) (take-length ws)

-- the lowest byte of a number and what is above it
low : (a q : ℕ) → a < 256 → (a + q * 256) % 256 ≡ a
low a q h = let e : (a + q * 256) / 256 ≡ q = omega arith in omega arith

high : (a q : ℕ) → a < 256 → (a + q * 256) / 256 ≡ q
high a q h = omega arith

pub four_bytes_lem : (a b c d : ℕ) → a < 256 → b < 256 → c < 256 → d < 256 → four_bytes (a + b * 256 + c * 65536 + d * 16777216) ≡ a ∷ b ∷ c ∷ d ∷ []
unfolding four_bytes
four_bytes_lem a b c d ha hb hc hd =
    let w : a + b * 256 + c * 65536 + d * 16777216 ≡ a + (b + (c + d * 256) * 256) * 256 = omega arith in
    let q2 : (a + (b + (c + d * 256) * 256) * 256) / 65536 ≡ c + d * 256 = omega arith in
    let q3 : (a + (b + (c + d * 256) * 256) * 256) / 16777216 ≡ d = omega arith in
    rw w (rw (low a (b + (c + d * 256) * 256) ha, high a (b + (c + d * 256) * 256) ha, q2, q3, low b (c + d * 256) hb, low c d hc))

-- the head of four words
two_in_four : (a b : ℕ) → a < 65536 → b < 65536 → four_bytes (a + b * 65536) ≡ two_bytes a ++ two_bytes b
unfolding two_bytes
two_in_four a b h g =
    let e : a + b * 65536 ≡ a % 256 + (a / 256) * 256 + (b % 256) * 65536 + (b / 256) * 16777216 = omega arith in
    rw e (four_bytes_lem (a % 256) (a / 256) (b % 256) (b / 256) (omega arith) (omega arith) (omega arith) (omega arith))

pub head-long : (k : Title) (index last used : ℕ) → length (head_of k index last used) ≡ 16
unfolding head_of two_bytes four_bytes
head-long k index last used = refl

four-zeros : zeros 4 ≡ 0 ∷ 0 ∷ 0 ∷ 0 ∷ []
unfolding zeros
four-zeros = refl

pub head-put : (k : Title) (index last used : ℕ) → k.key.code < 65536 → k.key.year < 65536 → index < 256 → last < 256 → used < 256 → k.edition < 256 → head_put (begun []) k index last used ≡ begun (head_of k index last used)
unfolding head_put head_of
head-put k index last used hc hy hi hl hu he =
    rw (begun-four [] 0 (k.key.code + k.key.year * 65536) refl (omega arith)) (
    rw (begun-four (four_bytes (k.key.code + k.key.year * 65536)) 4 k.key.hand (sym (four_bytes-long _)) (omega (arith, four_bytes-long (k.key.code + k.key.year * 65536)))) (
    let l : length (four_bytes (k.key.code + k.key.year * 65536) ++ four_bytes k.key.hand) ≡ 8 = simp (length-append, four_bytes-long) in
    rw (begun-four (four_bytes (k.key.code + k.key.year * 65536) ++ four_bytes k.key.hand) 8 (index + last * 256 + used * 65536 + k.edition * 16777216) (sym l) (omega arith)) (
    begun-zeros _ 4 (simp (length-append, four_bytes-long) (omega arith))
    ∙ rw (two_in_four k.key.code k.key.year hc hy, four_bytes_lem index last used k.edition hi hl hu he) (ap begun (simp (append_assoc, four-zeros))))))

-- the check of a begun block looks at its first 510 bytes
sum-front : (xs ys : List ℕ) (k : ℕ) → k ≤ length xs → sum_of k (xs ++ ys) ≡ sum_of k xs
unfolding sum_of
sum-front xs ys zero h = refl
sum-front xs ys (suc k) h = rw (sum-front xs ys k (omega arith), get_or-append xs ys 0 k h)

run_front : (xs ys : List ℕ) (k : ℕ) → k ≤ length xs → run_of k (xs ++ ys) ≡ run_of k xs
unfolding run_of
run_front xs ys zero h = refl
run_front xs ys (suc k) h = rw (run_front xs ys k (omega arith), sum-front xs ys (suc k) h)

pub sum-checked : (xs ys : List ℕ) → length xs ≡ 510 → sum_check (xs ++ ys) ≡ sum_check xs
unfolding sum_check
sum-checked xs ys h = rw (sum-front xs ys 510 (omega arith))

pub run_checked : (xs ys : List ℕ) → length xs ≡ 510 → run_check (xs ++ ys) ≡ run_check xs
unfolding run_check
run_checked xs ys h = rw (run_front xs ys 510 (omega arith))

check-front : (xs : List ℕ) → length xs ≡ 510 → check_of (begun xs) ≡ check_of xs
unfolding begun
check-front xs h = rw (sum-checked xs (zeros (512 - length xs)) h, run_checked xs (zeros (512 - length xs)) h)

begun-check : (xs : List ℕ) → length xs ≡ 510 → check_given (begun xs) ≡ check_of xs
begun-check xs h = long (begun xs) (omega (arith, begun-long xs (omega arith))) ∙ check-front xs h

begun-full : (xs : List ℕ) → length xs ≡ 512 → begun xs ≡ xs
unfolding begun zeros
begun-full xs h = rw h (append-nil xs)

closed : (xs : List ℕ) (s r : ℕ) → length xs ≡ 510 → set (set (begun xs) 510 s) 511 r ≡ xs ++ (s ∷ r ∷ [])
closed xs s r h =
    rw (begun-next xs 510 s (sym h) (omega arith)) (
    let l : length (xs ++ (s ∷ [])) ≡ 511 = simp (length-append, h) in
    rw (begun-next (xs ++ (s ∷ [])) 511 r (sym l) (omega arith)) (
    begun-full _ (simp (length-append, h)) ∙ append_assoc xs (s ∷ []) (r ∷ [])))

pub body_long : (k : Title) (index last : ℕ) (ws : List ℕ) → length ws ≤ 120 → length (body_of k index last ws) ≡ 510
unfolding body_of
body_long k index last ws h = simp (length-append, head-long, all_bytes-long, zeros-long) (omega arith)

begun_body : (k : Title) (index last : ℕ) (ws : List ℕ) → length ws ≤ 120 → begun (head_of k index last (length ws) ++ all_bytes ws) ≡ begun (body_of k index last ws)
unfolding body_of
begun_body k index last ws h =
    begun-zeros _ (494 - 4 * length ws) (simp (length-append, head-long, all_bytes-long) (omega arith))

-- the whole block
module _ (k : Title) (index last : ℕ) (ws : List ℕ) (h : length ws ≤ 120) (hc : k.key.code < 65536) (hy : k.key.year < 65536) (hi : index < 256) (hl : last < 256) (he : k.edition < 256) where
  laid : (l : List ℕ) → l ≡ begun [] → words_put (length ws) (head_put l k index last (length ws)) ws ≡ begun (body_of k index last ws)
  laid l e =
      rw (e, head-put k index last (length ws) hc hy hi hl (omega arith) he) (
      words-put-all (head_of k index last (length ws)) ws (head-long k index last (length ws)) h ∙ begun_body k index last ws h)

  pub filled : (l m o : List ℕ) → l ≡ begun [] → m ≡ head_put l k index last (length ws) → o ≡ words_put (length ws) m ws → set (set o 510 (check_given o).sum) 511 (check_given o).run ≡ block_of k index last ws
  unfolding block_of
  filled l m o e f g =
      let q : o ≡ begun (body_of k index last ws) = g ∙ rw (f) (laid l e) in
      rw (q, begun-check (body_of k index last ws) (body_long k index last ws h)) (closed (body_of k index last ws) _ _ (body_long k index last ws h))

-- zeros are a block of which nothing is laid
pub from-zeros : replicate 512 0 ≡ begun []
unfolding begun zeros
from-zeros = refl

-- a block laid over 512 bytes is the block
pub over-all : (out b : List ℕ) → length out ≡ 512 → length b ≡ 512 → copied 0 0 out 0 b 512 ≡ b
over-all out b h g =
    copied_pasted 0 0 out b 512 (omega arith) (omega arith)
    ∙ rw (take_all 512 b (omega arith), drop_of_length-le out {i = 512} (omega arith)) (append-nil b)

-- the loop that lays the entries

module _ (l ws : List ℕ) where
  pub put-none : l ≡ words_put 0 l ws
  unfolding words_put
  put-none = refl

  pub put_next : (i : ℕ) (m o : List ℕ) → m ≡ words_put i l ws → o ≡ four_put m (16 + 4 * i) (get_or ws i 0) → o ≡ words_put (i + 1) l ws
  unfolding words_put
  put_next i m o e f = rw (add-one i) (f ∙ rw e)

pub bit-small : (t : Bool) → bit t < 256
bit-small true = omega arith
bit-small false = omega arith
