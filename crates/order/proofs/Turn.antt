-- Nobody waits for ever. An accepted action takes its seat from those that owe, and either nobody owes anew, or the bet rises by the smallest raise at least,
-- or the seat leaves the active ones; so a measure falls. The turn passes no seat that owes, and such a seat owes until it acts. Assumes nothing.
use Prim.Native.Nat.{ℕ, ◌+◌, ◌-◌, ◌*◌, ◌/◌, ◌%◌, ◌≤◌, ◌<◌}
use native.Mathlib.Nat.{le_refl, le_trans, mul-le-mul, mul-le-mul_left, le-div_iff_mul-le, div-mul-le_self, mod-lt, mod-eq_of_lt, add-zero, eq-zero-or-pos}
use native.Mathlib.Omega.{arith}
use mathlib.Core.Path.{◌≡◌, refl, sym, ap, ◌∙◌}
use mathlib.Core.Logic.{⊎_elim, ◌≢◌}
use mathlib.Core.Bool.{true, false}
use mathlib.Core.List.{List, [], ◌∷◌}
use lib.ListN.{length}
use Rattle.commons.proofs.Bools.{differ}
use Rattle.commons.proofs.Order.{lt_or_le}
use Rattle.order.specs.Run.{Run, stop, act, Comes, ComesOr, comes, ends, longest}
use Rattle.order.proofs.Sets.{count, Within, count_mono, count-drop, count-some, count-le, count-lt}
use Rattle.order.proofs.Walk.{gap, gap-moves, gap_passes, elsewhere, further}
use Rattle.order.proofs.View.{View}

-- ---- numbers
-- a smaller distance holds no more of a larger raise, and one less where it is smaller by the raise
div_anti : (x y m k : ℕ) → 0 < m → m ≤ k → x ≤ y → x / k ≤ y / m
div_anti x y m k M h l = (le-div_iff_mul-le M).1 (le_trans (mul-le-mul (le_refl (x / k)) h) (le_trans (div-mul-le_self x k) l))

div-less : (x y m k : ℕ) → 0 < m → m ≤ k → x + m ≤ y → x / k + 1 ≤ y / m
div-less x y m k M h l = let a : x / k * m ≤ x / k * k = mul-le-mul (le_refl (x / k)) h in (le-div_iff_mul-le M).1 (omega (arith, div-mul-le_self x k))

-- of q + k * x either q falls and x does not rise, or x falls and q comes to k at most
calmer : (k x y q r : ℕ) → q < r → x ≤ y → q + k * x < r + k * y
calmer k x y q r l h = omega (arith, mul-le-mul_left k h)

dearer : (k x y q r : ℕ) → q ≤ k → 0 < r → x + 1 ≤ y → q + k * x < r + k * y
dearer k x y q r l p h = omega (arith, mul-le-mul_left k h)

module _ (n total : ℕ) where
  -- how an accepted action moves the bet and the sets
  pub data Kind (v w : View) : Type 0 where
    -- nobody owes anew
    calm : Within n w.owes v.owes → w.bet ≡ v.bet → Kind v w
    -- the bet rises by the smallest raise at least
    lifts : v.bet + v.least ≤ w.bet → Kind v w
    -- the seat to act leaves the active ones, whatever the rise
    leaves : v.active v.seat ≡ true → w.active v.seat ≡ false → v.bet ≤ w.bet → Kind v w

  -- an accepted action by the seat to act
  pub record Acted (v w : View) : Type 0 where
    pub seated : v.seat < n
    pub turn : v.owes v.seat ≡ true
    pub small : 0 < v.least
    pub rises : v.least ≤ w.least
    pub covered : w.bet ≤ total
    pub done : w.owes v.seat ≡ false
    pub stays : (j : ℕ) → j < n → j ≢ v.seat → v.owes j ≡ true → w.owes j ≡ true
    pub fewer : Within n w.active v.active
    pub kind : Kind v w
    pub next : w.seat ≡ (v.seat + gap n w.owes v.seat) % n

  -- ---- how long a run can be
  -- how many smallest raises fit between the bet and all chips
  abbrev pub raises : View → ℕ
  raises v = (total - v.bet) / v.least

  abbrev pub measure : View → ℕ
  measure v = count n v.owes + (n - 1) * (count n v.active + raises v)

  pub falls : (v w : View) → Acted v w → measure w < measure v
  falls v w a = go a.kind
    where
      fewer-active : count n w.active ≤ count n v.active
      fewer-active = count_mono n w.active v.active a.fewer

      no_more : v.bet ≤ w.bet → raises w ≤ raises v
      no_more h = div_anti (total - w.bet) (total - v.bet) v.least w.least a.small a.rises (omega arith)

      -- a lift makes at most n - 1 owe
      lifted : count n w.active + raises w + 1 ≤ count n v.active + raises v → measure w < measure v
      lifted h =
          dearer (n - 1) (count n w.active + raises w) (count n v.active + raises v) (count n w.owes) (count n v.owes)
          (omega (arith, count-lt n w.owes v.seat a.seated a.done)) (count-some n v.owes v.seat a.seated a.turn) h

      go : Kind v w → measure w < measure v
      go (calm h e) =
          calmer (n - 1) (count n w.active + raises w) (count n v.active + raises v) (count n w.owes) (count n v.owes)
          (count-drop n w.owes v.owes v.seat a.seated a.turn a.done h) (omega (arith, fewer-active, no_more (omega arith)))
      go (lifts h) =
          lifted (omega (arith, fewer-active, div-less (total - w.bet) (total - v.bet) v.least w.least a.small a.rises (omega (arith, a.covered))))
      go (leaves p q h) = lifted (omega (arith, count-drop n w.active v.active v.seat a.seated p q a.fewer, no_more h))

  -- ---- how near a seat that owes has come: it still owes, and fewer places on
  record Nearer (w : View) (d j : ℕ) : Type 0 where
    places : ℕ
    fewer : places < d
    on : j ≡ (w.seat + places) % n
    owing : w.owes j ≡ true

  nearer : (v w : View) → Acted v w → (d j : ℕ) → 0 < d → d < n → j ≡ (v.seat + d) % n → v.owes j ≡ true → Nearer w d j
  nearer v w a d j z h p o =
      let step = gap n w.owes v.seat in
      let J : j < n = rw p (mod-lt (v.seat + d) (omega arith)) in
      let owed : w.owes j ≡ true = a.stays j J (λ e. elsewhere n v.seat d a.seated z h (sym p ∙ e)) o in
      let near : step ≤ d = ⊎_elim (λ l. absurd (differ (w.owes j) owed (rw p (gap_passes n w.owes v.seat d z l)))) (λ g. g) (lt_or_le d step) in
      record { places = d - step; fewer = omega (arith, gap-moves n w.owes v.seat); on = rw a.next (p ∙ sym (further n v.seat step d near)); owing = owed }

-- ---- runs of actions each of which is an accepted one, over any states that show a view and keep an invariant
pub record Game (St Act : Type 0) (n total : ℕ) : Type 1 where
  pub view : St → View
  pub Step : St → Act → St → Type 0
  pub Inv : St → Type 0
  pub seated : (c : St) → Inv c → (view c).seat < n
  pub acts : (c : St) (a : Act) (d : St) → Inv c → Step c a d → Acted n total (view c) (view d)
  pub keeps : (c : St) (a : Act) (d : St) → Inv c → Step c a d → Inv d

module _ {St Act : Type 0} {n total : ℕ} (G : Game St Act n total) where
  open G use {view, Step, Inv, seated, acts, keeps}

  run_falls : {c e : St} {l : List Act} → Inv c → Run Step c l e → length l + measure n total (view e) ≤ measure n total (view c)
  run_falls i stop = omega arith
  run_falls i (act {c} {d} {e} {a} {l} s r) = omega (arith, falls n total (view c) (view d) (acts c a d i s), run_falls (keeps c a d i s) r)

  -- before nobody owes
  pub run_bound : {c e : St} {l : List Act} → Inv c → Run Step c l e → length l ≤ longest (count n (view c).owes) n total (view c).bet (view c).least
  run_bound {c} {e} {l} i r =
      more (length l) (measure n total (view e)) (count n (view c).owes) (n - 1) (count n (view c).active) n (raises n total (view c)) (run_falls i r) (count-le n (view c).active)
    where
      more : (k m q w x y z : ℕ) → k + m ≤ q + w * (x + z) → x ≤ y → k ≤ q + w * (y + z)
      more k m q w x y z h g = let a : w * (x + z) ≤ w * (y + z) = mul-le-mul_left w (omega arith) in omega arith

  -- ---- whose turn comes when: the seat j owes; it is to act, and owes
  abbrev pub Owes : ℕ → St → Type 0
  Owes j c = (view c).owes j ≡ true

  abbrev pub HasTurn : ℕ → St → Type 0
  HasTurn j c = ((view c).seat ≡ j) × Owes j c

  now : {c e : St} {l : List Act} (d j : ℕ) → Inv c → d ≡ 0 → j ≡ ((view c).seat + d) % n → Owes j c → Run Step c l e → Comes Step (HasTurn j) d c l e
  now {c} {e} {l} d j i z p o r = record {
    first = [];
    rest = l;
    all = refl;
    soon = omega arith;
    at = c;
    before = stop;
    after = r;
    holds = (sym (p ∙ rw (z, add-zero (view c).seat) (mod-eq_of_lt (seated c i))), o);
  }

  later : {b c e : St} {a : Act} {l : List Act} {P : St → Type 0} (k d : ℕ) → Step b a c → k < d → Comes Step P k c l e → Comes Step P d b (a ∷ l) e
  later {a} k d s h m = record {
    first = a ∷ m.first;
    rest = m.rest;
    all = ap (λ (l : List Act). a ∷ l) m.all;
    soon = omega (arith, m.soon);
    at = m.at;
    before = act s m.before;
    after = m.after;
    holds = m.holds;
  }

  later_or : {b c e : St} {a : Act} {l : List Act} {P Q : St → Type 0} (k d : ℕ) → Step b a c → k < d → ComesOr Step P Q k c l e → ComesOr Step P Q d b (a ∷ l) e
  later_or k d s h (comes m) = comes (later k d s h m)
  later_or k d s h (ends g q) = ends (omega arith) q

  -- a seat that owes and sits d places on has the turn after at most d accepted actions, or there are fewer and it still owes
  pub turn-comes : {c e : St} {l : List Act} (d j : ℕ) → Inv c → d < n → j ≡ ((view c).seat + d) % n → Owes j c → Run Step c l e → ComesOr Step (HasTurn j) (Owes j) d c l e
  turn-comes d j i h p o stop = ⊎_elim (λ z. comes (now d j i z p o stop)) (λ z. ends z o) (eq-zero-or-pos d)
  turn-comes d j i h p o (act {c} {d = k} {e} {a} {l} s r) =
      ⊎_elim (λ z. comes (now d j i z p o (act s r)))
      (λ (z : 0 < d).
      let m = nearer n total (view c) (view k) (acts c a k i s) d j z h p o in
      later_or m.places d s m.fewer (turn-comes m.places j (keeps c a k i s) (omega (arith, m.fewer)) m.on m.owing r))
      (eq-zero-or-pos d)
