-- How a record's own lists, bits and walk show in a view: a whole amount stored is a changed place, a cleared bit is a seat that left, and the seat that the walk
-- comes to is the machine's. Assumes nothing.
use Prim.Native.Nat.{ℕ, ◌+◌, ◌%◌, ◌≤◌, ◌<◌}
use native.Mathlib.Omega.{arith}
use mathlib.Core.Path.{◌≡◌, refl, sym, ap, ◌∙◌}
use mathlib.Core.Logic.{⊎_elim}
use mathlib.Core.Bool.{Bool, true, false, cond, not, ◌&&◌, and-true, and-false}
use mathlib.Core.List.{List}
use lib.ListN.{length, get_or, set}
use lib.Seq.{get_or-set_same, get_or-set_other}
use lib.Ieee.{Float, nan}
use borrow.Author.Tests.{eq-eqb, ne_eqb}
use Rattle.seats.specs.Bits.{has, without, without_if}
use Rattle.commons.proofs.Bools.{differ}
use Rattle.commons.proofs.Order.{lt_or_le}
use Rattle.seats.proofs.Laws.{has-without}
use Rattle.rounds.specs.Walk.{distance, walk_of}
use Rattle.rounds.proofs.Walk.{walk_inside}
use Rattle.chips.specs.Whole.{most, is_whole, chips_in, all_whole}
use Rattle.chips.proofs.Value.{Is}
use Rattle.commons.proofs.Folds.{all_hold}
use Rattle.chips.proofs.Whole.{is_whole_lem, chips_are}
use Rattle.chips.proofs.Lists.{whole-at, too_long}
use Rattle.rounds.specs.Paying.{owing_after}
use Rattle.order.specs.GoodOrder.{chips_at}
use Rattle.order.proofs.Change.{Put, put_each}
use Rattle.order.proofs.Walk.{gap}

-- ---- amounts
-- what is read of each place of a list, with x stored at s
pub set-put : {A : Type 0} (f : Float → A) (n : ℕ) (l : List Float) (s : ℕ) (x : Float) → s < length l → Put n (λ i. f (get_or l i nan)) (λ i. f (get_or (set l s x) i nan)) s (f x)
set-put f n l s x h = record { here = ap f (get_or-set_same l s x nan h); there = λ i j e. ap f (get_or-set_other l s i x nan e) }

-- x is k chips, at most 8,000
abbrev pub Chips : Float → ℕ → Type 0
Chips x k = Is x k × (k ≤ most)

-- stored at a place of a list of whole amounts
module _ (n : ℕ) (l : List Float) (w : all_whole l n ≡ true) (s : ℕ) (h : s < n) where
  -- what is whole stands in the list
  inside : s < length l
  inside = ⊎_elim (λ a. a) (λ b. absurd (differ (all_whole l n) w (too_long l n (omega arith)))) (lt_or_le s (length l))

  module _ {x : Float} {k : ℕ} (v : Chips x k) where
    pub stored : Put n (chips_at l) (chips_at (set l s x)) s k
    stored = rw (← chips_are x k v.0 v.1) (set-put chips_in n l s x inside)

    pub still-whole : all_whole (set l s x) n ≡ true
    unfolding all_whole
    still-whole = all_hold n _ (put_each (λ i b. b ≡ true) (set-put is_whole n l s x inside) (is_whole_lem x k v.0 v.1) (λ i j e. whole-at l n w i j))

-- ---- a seat that leaves a set
pub without-put : (n s i : ℕ) → n ≤ 16 → i < 16 → Put n (has s) (has (without s i)) i false
without-put n s i few h = record {
  here = has-without s i i h h ∙ rw (eq-eqb i i refl) (and-false (has s i));
  there = λ j l e. has-without s i j h (omega arith) ∙ rw (ne_eqb i j (λ z. e (sym z))) (and-true (has s j));
}

-- if it is out
pub leaving_put : (n s i : ℕ) (out : Bool) → n ≤ 16 → i < 16 → Put n (has s) (has (without_if out s i)) i (has s i && not out)
leaving_put n s i true few h = let p = without-put n s i few h in record { here = p.here ∙ sym (and-false (has s i)); there = p.there }
leaving_put n s i false few h = record { here = sym (and-true (has s i)); there = λ j l e. refl }

-- by choice: who owes after seat i paid
pub owing-put : (n i active owed : ℕ) (rose out : Bool) → n ≤ 16 → i < 16 → Put n (cond rose (has active) (has owed)) (has (owing_after rose false out owed active i)) i false
unfolding owing_after
owing-put n i active owed rose out few h =
    let p = without-put n (cond rose active owed) i few h in
    let q = leaving_put n (without (cond rose active owed) i) i out few h in
    record {
      here = q.here ∙ rw p.here;
      there = λ j l e. q.there j l e ∙ p.there j l e ∙ seen rose j;
    }
  where
    seen : (b : Bool) (j : ℕ) → has (cond b active owed) j ≡ cond b (has active) (has owed) j
    seen true j = refl
    seen false j = refl

-- ---- the walk
pub walk-next : (owed n s : ℕ) → s < n → n ≤ 16 → (walk_of owed n s).seat ≡ (s + gap n (has owed) s) % n
unfolding distance
walk-next owed n s h few = rw (walk_inside owed n s h few)
