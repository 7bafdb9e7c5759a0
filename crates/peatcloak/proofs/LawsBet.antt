-- The bet in place, by its verdict: what is answered, what the lists then hold, and that the bet's own table stands there. Assumes nothing.
use Rattle.std.specs.Prelude.{Result, Ok, Err}
use Prim.Native.Nat.{ℕ, ◌<◌, ◌≤◌}
use native.Mathlib.Omega.{arith}
use mathlib.Core.Path.{◌≡◌, refl, sym, subst, ap, ◌∙◌}
use mathlib.Core.Bool.{Bool, true, false, cond}
use mathlib.Core.List.{List}
use borrow.Author.Tests.{ne_eqb, leb-true, le-leb}
use lib.Dec.{leb}
use lib.ListN.{length}
use lib.Ieee.{Float}
use Rattle.commons.proofs.Bools.{and_both}
use Rattle.refusals.specs.declared.Refusal.{Refusal}
use Rattle.refusals.specs.declared.Refusal.TheVariants.{Added}
use Rattle.refusals.specs.declared.AddedError.TheVariants.{BadRecord}
use Rattle.refusals.specs.Number.{number_of}
use Rattle.refusals.proofs.Numbers.{numbered}
use Rattle.rounds.specs.declared.paying.Payer.{Payer}
use Rattle.rounds.specs.declared.walking.Reached.{Reached}
use Rattle.rounds.specs.Paying.{pay_of, seated}
use Rattle.rounds.specs.Walk.{walk_of}
use Rattle.table.specs.declared.GameState.{GameState}
use Rattle.table.specs.Answers.{not_paid}
use Rattle.table.specs.Pay.{payer_in, with_payer, payer_paid, turn_paid, table_paid, paid_step, verdict_of, bet_of}
use Rattle.table.specs.Sound.{sound_frame, sound_of}
use Rattle.table.proofs.Bet.{bet-bad, bet-refused, bet-paid}
use Rattle.table.proofs.LawsSound.{paid-sound}
use Rattle.table.proofs.Sound.{Sound, sound}
use Rattle.layout.specs.Outcome.{Outcome}
use Rattle.layout.specs.Places.{TO_ACT_IDX, ROUND_LENGTH, FLOATS, NUMBERS}
use Rattle.layout.specs.Standing.{frame_at, sound_in, stands_in, table_at}
use Rattle.layout.specs.Words.{word_at}
use Rattle.peatcloak.specs.Calls.{wagered, nothing_there, bet_on, Stands}
use Rattle.peatcloak.specs.Put.{floats_with, numbers_with, PayerFits, payer_on, floats_put, numbers_put}
use Rattle.peatcloak.proofs.LawsPut.{put-stands, put_payer}

-- ---- what the test of soundness tells
module _ (fs : List Float) (ns : List ℕ) (s : sound_in ns ≡ true) where
  pub numbers-there : NUMBERS ≤ length ns
  unfolding sound_in
  numbers-there = leb-true _ _ (and_both (leb NUMBERS (length ns)) (sound_frame (frame_at ns)) s).0

  pub sound-there : sound_of (table_at fs ns) ≡ true
  unfolding sound_in
  sound-there = (and_both (leb NUMBERS (length ns)) (sound_frame (frame_at ns)) s).1

  pub seat-low : word_at ns TO_ACT_IDX < 16
  seat-low = (sound (table_at fs ns) sound-there).place

module _ (fs : List Float) (ns : List ℕ) where
  -- the number, the lists after it, and that the outcome's table stands there
  abbrev pub Wagered : Outcome → ℕ → List Float → List ℕ → Type 0
  Wagered o r fs' ns' = (r ≡ o.number) × ((fs' ≡ floats_put fs ns o) × ((ns' ≡ numbers_put ns o) × Stands r fs' ns' o))

  same-bet : (o u : Outcome) (r : ℕ) (fs' : List Float) (ns' : List ℕ) → o ≡ u → Wagered o r fs' ns' → Wagered u r fs' ns'
  same-bet o u r fs' ns' e h = subst (λ (v : Outcome). Wagered v r fs' ns') e h

  -- a refusal writes nothing
  refused-bet : (o : Outcome) (r : ℕ) → r ≡ o.number → (o.number ≡ 0 → ⊥) → Wagered o r fs ns
  refused-bet o r e z =
      let i = word_at ns TO_ACT_IDX in
      let n = sym (ne_eqb o.number 0 z) in (
        e,
        (
          (λ j. cond (n j) (floats_with fs i (payer_on o.table i) o.paid) fs),
          ((λ j. cond (n j) (numbers_with ns (payer_on o.table i) o.passed) ns), λ q. absurd (z (sym e ∙ q))),
        ),
      )

  -- ---- on a sound table, with the payer as it was read
  module _ (long : FLOATS ≤ length fs) (s : sound_in ns ≡ true) (a : Float) (forced : Bool) (p : Payer) (read : p ≡ payer_in (table_at fs ns)) (size : (Result Float Refusal)) (told : size ≡ verdict_of p a forced) where
    abbrev t : GameState
    t = table_at fs ns

    verdict : size ≡ verdict_of (payer_in t) a forced
    verdict = told ∙ λ i. verdict_of (read i) a forced

    pub is-refused : (r : Refusal) (k : ℕ) → size ≡ Err r → k ≡ number_of r → Wagered (wagered (bet_of t a forced)) k fs ns
    is-refused r k e n =
        same-bet (wagered (not_paid r t)) _ k fs ns (ap wagered (bet-refused t a forced true (sym (sound-there fs ns s)) refl size verdict r e)) (refused-bet (wagered (not_paid r t)) k n (numbered r))

    -- q is what the payment made of the payer, w where the walk then came to
    module _ (x : Float) (e : size ≡ Ok x) (n : ℕ) (seats : n ≡ word_at ns ROUND_LENGTH) (q : Payer) (by : q ≡ pay_of p x forced) (w : Reached) (walked : w ≡ walk_of q.owing n q.seat) where
      pays : q ≡ payer_paid t x forced
      pays = by ∙ λ i. pay_of (read i) x forced

      turns : w ≡ turn_paid t x forced
      turns = walked ∙ λ i. walk_of (pays i).owing (seats i) (pays i).seat

      abbrev after : Payer
      after = seated q w.seat

      abbrev stood : Payer
      stood = seated (payer_paid t x forced) (turn_paid t x forced).seat

      ends : after ≡ stood
      ends = λ i. seated (pays i) (turns i).seat

      still : Sound (table_paid t x forced)
      still = paid-sound t (sound t (sound-there fs ns s)) x forced

      turn_low : w.seat < 4294967296
      turn_low = let low : (turn_paid t x forced).seat < 16 = still.place in subst (λ (r : Reached). r.seat < 4294967296) (sym turns) (omega (arith, low))

      pub is-paid : (fs' : List Float) (ns' : List ℕ)
          → fs' ≡ floats_with fs p.seat after x
          → ns' ≡ numbers_with ns after w.passed
          → PayerFits after
          → Wagered (wagered (bet_of t a forced)) 0 fs' ns'
      is-paid fs' ns' f g fits =
          let i = word_at ns TO_ACT_IDX in
          let low = seat-low fs ns s in
          let here : fs' ≡ floats_with fs i after x = f ∙ λ j. floats_with fs (read j).seat after x in
          let payer : after ≡ payer_on (table_paid t x forced) i = ends ∙ sym (put_payer fs ns stood low) in
          let stands = put-stands fs ns after x w.passed long (numbers-there fs ns s) low fits turn_low in
          same-bet (wagered (paid_step t x forced)) _ 0 fs' ns' (ap wagered (bet-paid t a forced true (sym (sound-there fs ns s)) refl size verdict x e)) (
            refl,
            (
              here ∙ (λ j. floats_with fs i (payer j) x),
              (g ∙ (λ j. numbers_with ns (payer j) (turns j).passed), λ z. (λ j. table_at (here j) (g j)) ∙ stands ∙ λ j. with_payer t (ends j)),
            ),
          )

  -- ---- the call
  pub on-bet : (a : Float) (forced : Bool) (r : ℕ) (fs' : List Float) (ns' : List ℕ)
      → stands_in fs ns ≡ true
      → Wagered (wagered (bet_of (table_at fs ns) a forced)) r fs' ns'
      → Wagered (bet_on fs ns a forced) r fs' ns'
  on-bet a forced r fs' ns' h = same-bet (wagered (bet_of (table_at fs ns) a forced)) _ r fs' ns' (λ i. cond (sym h i) (wagered (bet_of (table_at fs ns) a forced)) (nothing_there fs ns))

  pub no-bet : (a : Float) (forced : Bool) → stands_in fs ns ≡ false → Wagered (bet_on fs ns a forced) 19 fs ns
  no-bet a forced h =
      same-bet (nothing_there fs ns) _ 19 fs ns (λ i. cond (sym h i) (wagered (bet_of (table_at fs ns) a forced)) (nothing_there fs ns))
      (refused-bet (nothing_there fs ns) 19 refl (λ z. omega (arith, z)))

  pub bad-bet : (a : Float) (forced : Bool) → stands_in fs ns ≡ true → NUMBERS ≤ length ns → sound_in ns ≡ false → Wagered (bet_on fs ns a forced) 19 fs ns
  unfolding sound_in
  bad-bet a forced h long s =
      let t = table_at fs ns in
      let unsound : sound_of t ≡ false = rw (le-leb NUMBERS (length ns) long) at s in
      on-bet a forced 19 fs ns h
      (same-bet (wagered (not_paid (Added BadRecord) t)) _ 19 fs ns (ap wagered (bet-bad t a forced false (sym unsound) refl)) (refused-bet (wagered (not_paid (Added BadRecord) t)) 19 refl (λ z. omega (arith, z))))
