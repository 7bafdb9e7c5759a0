-- One turn more of each loop of the builder, and its end. Assumes nothing.
use Prim.Native.Nat.{ℕ, min, zero, suc, ◌+◌, ◌-◌, ◌≤◌, ◌<◌}
use native.Mathlib.Numerals.{add-one}
use native.Mathlib.Omega.{arith}
use mathlib.Core.Path.{◌≡◌, refl, sym, ◌∙◌}
use mathlib.Core.Bool.{Bool, true, false}
use mathlib.Core.List.{List}
use lib.Dec.{eqb, leb}
use lib.ListN.{length, take, get_or, set, replicate, get_or-replicate}
use Rattle.std.proofs.lemmas.List.{get_or_past, set-get_or}
use Rattle.commons.specs.Filled.{filled, copied}
use Rattle.commons.proofs.Filled.{filled-out, copied-front}
use Rattle.std.specs.List.{list_any}
use Rattle.std.proofs.lemmas.Bool.{le-leb, lt-leb}
use Rattle.std.proofs.lemmas.List.Folds.{list_any_more}
use Rattle.std.specs.Prelude.{Option, Some, None, Ok, Err}
use Rattle.std.specs.Option.{MatchOption, option_map_or}
use Rattle.refusals.specs.declared.Refusal.TheVariants.{Build, Added}
use Rattle.refusals.specs.declared.GameStateBuilderError.TheVariants.{DuplicateCard}
use Rattle.refusals.specs.declared.AddedError.TheVariants.{BadCard}
use Rattle.refusals.specs.Rows.{give_if, judge}
use Rattle.seats.specs.Bits.{with_if, seats_where}
use Rattle.builder.specs.Cards.{cards_to, seen_to, card_rows}

-- a test of what is given, which fails where nothing is
pub mapped_test : {A : Type 0} (p : A → Bool) (o : Option A) (r : Bool) {Q : A → Type 0} → MatchOption o (r ≡ false) Q → ((x : A) → Q x → r ≡ p x) → r ≡ option_map_or p o false
mapped_test p None r e f = e
mapped_test p (Some x) r e f = f x e

-- ---- the seats of which a test holds
pub seats-next : (p : ℕ → Bool) (i s r : ℕ) (t : Bool) → s ≡ seats_where i p → t ≡ p i → r ≡ with_if t s i → r ≡ seats_where (i + 1) p
unfolding seats_where
seats-next p i s r t e g h = rw add-one (h ∙ rw (g, e))

pub all-seats : (p : ℕ → Bool) (i n s : ℕ) → s ≡ seats_where i p → i ≤ n → n ≤ i → s ≡ seats_where n p
all-seats p i n s e h g = let q : i ≡ n = omega arith in e ∙ rw q

-- ---- the first n cards of a list: past its end there are zeros already
cards-past : (s : List ℕ) (m j : ℕ) → m + j ≤ 5 → (0 < j → length s ≤ m) → filled (m + j) (replicate 5 0) (λ i. get_or s i 0) ≡ filled m (replicate 5 0) (λ i. get_or s i 0)
unfolding filled
cards-past s m zero g h = let z : m + 0 ≡ m = omega arith in rw z
cards-past s m (suc j) g h =
    let z : m + suc j ≡ suc (m + j) = omega arith in
    let l = filled (m + j) (replicate 5 0) (λ i. get_or s i 0) in
    let past : length s ≤ m = h (omega arith) in
    let zero-there : get_or s (m + j) 0 ≡ get_or l (m + j) 0 = get_or_past s (m + j) 0 (omega arith) ∙ sym (filled-out (replicate 5 0) (λ i. get_or s i 0) (m + j) (m + j) 0 (omega arith) ∙ get_or-replicate 5 (m + j) 0 0 (omega arith)) in
    rw z ((λ i. set l (m + j) (zero-there i)) ∙ set-get_or l (m + j) 0 ∙ cards-past s m j (omega arith) (λ k. past))

pub cards-copied : (s : List ℕ) (n : ℕ) → copied 0 0 (replicate 5 0) 0 s n ≡ cards_to n s
cards-copied s n =
    let m = min n (min (length s) 5) in
    let e : m + (min n 5 - m) ≡ min n 5 = omega arith in
    copied-front 0 (replicate 5 0) s n m (omega arith) ∙ sym (cards-past s m (min n 5 - m) (omega arith) (λ h. omega arith)) ∙ rw e

-- ---- the cards from place i on
-- a card among the first k
pub seen_any : (l : List ℕ) (c k : ℕ) → k ≤ length l → list_any (λ d. eqb d c) (take k l) ≡ seen_to k c l
unfolding seen_to
seen_any l c zero h = refl
seen_any l c (suc k) h = rw (sym (add-one k)) (list_any_more (λ d. eqb d c) l k 0 (omega arith) ∙ rw (seen_any l c k (omega arith)))

module _ (l : List ℕ) (n i c : ℕ) (h : i < n) (e : c ≡ get_or l i 0) where
  one-card : judge (card_rows (n - i) i l)
      ≡ give_if (leb 52 (get_or l i 0)) (Added BadCard) (give_if (seen_to i (get_or l i 0) l) (Build DuplicateCard) (judge (card_rows (n - (i + 1)) (i + 1) l)))
  unfolding card_rows
  one-card = let m : n - i ≡ suc (n - (i + 1)) = omega arith in rw m

  pub bad-card : 52 ≤ c → Err (Added BadCard) ≡ judge (card_rows (n - i) i l)
  bad-card g = sym (one-card ∙ rw (sym e, le-leb 52 c g))

  pub seen-card : c < 52 → seen_to i c l ≡ true → Err (Build DuplicateCard) ≡ judge (card_rows (n - i) i l)
  seen-card g s = sym (one-card ∙ rw (sym e, lt-leb 52 c g, s))

  pub good-card : c < 52 → seen_to i c l ≡ false → judge (card_rows (n - i) i l) ≡ judge (card_rows (n - (i + 1)) (i + 1) l)
  good-card g s = one-card ∙ rw (sym e, lt-leb 52 c g, s)

pub no-cards : (l : List ℕ) (n i : ℕ) → n ≤ i → judge (card_rows (n - i) i l) ≡ Ok tt
unfolding card_rows
no-cards l n i h = let z : n - i ≡ 0 = omega arith in rw z
