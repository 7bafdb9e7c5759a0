-- The verdict on a bet and the bet on a record, case by case. Assumes nothing.
use Rattle.std.specs.Prelude.{Result, Ok, Err}
use Rattle.refusals.specs.Rows.{Verdict}
use mathlib.Core.Path.{◌≡◌, refl, sym, ap, ◌∙◌}
use Prim.Native.Nat.{ℕ}
use native.Mathlib.Omega.{arith}
use mathlib.Core.Bool.{Bool, true, false}
use mathlib.Core.List.{[], ◌∷◌}
use lib.Ieee.{Float}
use Rattle.refusals.specs.declared.Refusal.{Refusal}
use Rattle.refusals.specs.declared.Refusal.TheVariants.{Added}
use Rattle.refusals.specs.declared.AddedError.TheVariants.{BadRecord, CounterFull}
use Rattle.refusals.specs.Rows.{row, judge, answer}
use Rattle.refusals.proofs.Rows.{judge-joined, then_answer}
use Rattle.bets.specs.Bet.{size_rows, size_for}
use Rattle.rounds.specs.declared.paying.Payer.{Payer}
use Rattle.rounds.specs.declared.paying.Stake.{Stake}
use Rattle.rounds.specs.Paying.{is_full}
use Rattle.table.specs.declared.GameState.{GameState}
use Rattle.table.specs.Answers.{not_paid}
use Rattle.table.specs.Pay.{faced_by, pays_of, full_row, payer_in, paid_step, verdict_rows, room_for, verdict_of, bet_of}
use Rattle.table.specs.Sound.{sound_of}

-- ---- a size that a verdict gives: it pays where the verdict stands, and else tells its refusal
module _ (x : Float) where
  stands : (v : Verdict) (y : Float) → answer (Ok x) Err v ≡ Ok y → (v ≡ (Ok tt)) × (x ≡ y)
  stands (Ok _) y e = (refl, cc)
  stands (Err r) y e = absurd (let z : ◌≡◌ {A = ℕ} 0 1 = cc in omega arith)

  falls : (v : Verdict) (r : Refusal) → answer (Ok x) Err v ≡ Err r → v ≡ Err r
  falls (Ok _) r e = absurd (let z : ◌≡◌ {A = ℕ} 0 1 = cc in omega arith)
  falls (Err s) r e = cc

-- ---- what is left of a size once the counters are looked at
module _ (s : Stake) (forced : Bool) (size : (Result Float Refusal)) where
  pub room-refused : (r : Refusal) → size ≡ Err r → Err r ≡ room_for s forced size
  room-refused r e = λ i. room_for s forced (sym e i)

  module _ (x : Float) (e : size ≡ Ok x) (f : Bool) (counted : f ≡ is_full s x forced) where
    by_counters : (g : Bool) → f ≡ g → answer (Ok x) Err (judge (row g (Added CounterFull) ∷ [])) ≡ room_for s forced size
    by_counters g h = (λ i. answer (Ok x) Err (judge (row ((sym h ∙ counted) i) (Added CounterFull) ∷ []))) ∙ λ i. room_for s forced (sym e i)

    pub room-full : f ≡ true → Err (Added CounterFull) ≡ room_for s forced size
    room-full h = by_counters true h

    pub room-left : f ≡ false → Ok x ≡ room_for s forced size
    room-left h = by_counters false h

-- ---- the verdict: the counters' row comes after those of the size
module _ (p : Payer) (a : Float) (forced : Bool) where
  abbrev pays : Float
  pays = pays_of p a forced

  abbrev by_size : Verdict
  by_size = judge (size_rows forced a (faced_by p))

  joined : (v : Verdict) → by_size ≡ v → answer (Ok pays) Err (answer (judge (full_row p a forced ∷ [])) Err v) ≡ verdict_of p a forced
  unfolding verdict_of
  joined v e = sym (ap (answer (Ok pays) Err) (judge-joined (size_rows forced a (faced_by p)) (full_row p a forced ∷ []) ∙ then_answer (size_rows forced a (faced_by p)) (judge (full_row p a forced ∷ [])) ∙ ap (answer (judge (full_row p a forced ∷ [])) Err) e))

  by-verdict : (v : Verdict) → by_size ≡ v → room_for p.stake forced (answer (Ok pays) Err v) ≡ verdict_of p a forced
  by-verdict (Ok _) e = joined (Ok tt) e
  by-verdict (Err r) e = joined (Err r) e

  pub verdict-room : (size : (Result Float Refusal)) → size ≡ size_for forced a (faced_by p) → room_for p.stake forced size ≡ verdict_of p a forced
  unfolding size_for
  verdict-room size told = ap (room_for p.stake forced) told ∙ by-verdict by_size refl

-- ---- the bet: ok is what the soundness test gave, size what the verdict came to
module _ (t : GameState) (a : Float) (forced ok : Bool) (test : ok ≡ sound_of t) where
  pub bet-bad : ok ≡ false → not_paid (Added BadRecord) t ≡ bet_of t a forced
  unfolding bet_of
  bet-bad h = rw (sym test, h)

  module _ (h : ok ≡ true) (size : (Result Float Refusal)) (told : size ≡ verdict_of (payer_in t) a forced) where
    abbrev verdict : Verdict
    verdict = judge (verdict_rows (payer_in t) a forced)

    abbrev due : Float
    due = pays_of (payer_in t) a forced

    on : (v : Verdict) → verdict ≡ v → answer (paid_step t due forced) (λ r. not_paid r t) v ≡ bet_of t a forced
    unfolding bet_of
    on v e = rw (sym test, h, e)

    pub bet-refused : (r : Refusal) → size ≡ Err r → not_paid r t ≡ bet_of t a forced
    unfolding verdict_of
    bet-refused r e = on (Err r) (falls due verdict r (sym told ∙ e))

    pub bet-paid : (x : Float) → size ≡ Ok x → paid_step t x forced ≡ bet_of t a forced
    unfolding verdict_of
    bet-paid x e = let w = stands due verdict x (sym told ∙ e) in (λ i. paid_step t (sym w.1 i) forced) ∙ on (Ok tt) w.0
