-- A call on the table in the lists: what its step comes to where one stands there, and 19 with nothing written where none does. Assumes nothing.
use Rattle.std.specs.Prelude.{Result, Ok, Err}
use Rattle.std.specs.Result.{result_unwrap_or}
use Rattle.refusals.specs.declared.Refusal.{Refusal}
use Rattle.refusals.specs.Rows.{verdict_number}
use Rattle.rounds.specs.Steps.{passed_of, amount_of}
use Prim.Native.Nat.{ℕ, ◌≤◌}
use native.Mathlib.Omega.{arith}
use mathlib.Core.Path.{◌≡◌, refl, sym, subst, ap, ◌∙◌}
use mathlib.Core.Bool.{Bool, true, false, cond, ◌&&◌}
use mathlib.Core.Logic.{⊎_elim}
use mathlib.Core.List.{List}
use lib.ListN.{length}
use lib.Ieee.{Float}
use borrow.Author.Tests.{le-leb}
use Rattle.commons.proofs.Bools.{and_both, either}
use Rattle.floats.specs.Helpers.{zerof}
use Rattle.refusals.specs.declared.Refusal.TheVariants.{Added}
use Rattle.refusals.specs.declared.AddedError.TheVariants.{BadRecord}
use Rattle.table.specs.declared.GameState.{GameState}
use Rattle.table.specs.declared.TableStep.{TableStep}
use Rattle.table.specs.Answers.{done, refused}
use Rattle.table.specs.Sound.{sound_of}
use Rattle.layout.specs.Fits.{Fits}
use Rattle.layout.specs.Laid.{laid_numbers, laid_floats}
use Rattle.layout.specs.Outcome.{Outcome, floats_after, numbers_after}
use Rattle.layout.specs.Places.{FLOATS, NUMBERS}
use Rattle.layout.specs.Standing.{room_for, words_fit, stands_in, sound_in, table_at, table_in}
use Rattle.layout.proofs.LawsBack.{laid-all}
use Rattle.layout.proofs.LawsOutcome.{After, accepted-after, refused-after}
use Rattle.layout.proofs.LawsRead.{room_of, table-there, stands-room, stands-fit}
use Rattle.peatcloak.specs.Calls.{stepped, nothing_there, on, Stands}

module _ (fs : List Float) (ns : List ℕ) where
  -- the number that a call answers, the lists after it, and that its table stands there
  abbrev pub Answered : Outcome → ℕ → List Float → List ℕ → Type 0
  Answered o r fs' ns' = (r ≡ o.number) × ((fs' ≡ floats_after (length ns) o fs) × ((ns' ≡ numbers_after (length fs) o ns) × Stands r fs' ns' o))

  pub same_after : (o u : Outcome) (r : ℕ) (fs' : List Float) (ns' : List ℕ) → o ≡ u → After fs ns o r fs' ns' → After fs ns u r fs' ns'
  same_after o u r fs' ns' e h = subst (λ (v : Outcome). After fs ns v r fs' ns') e h

  -- an outcome that was laid where there is room, and whose table is sound if it is accepted
  pub answered : (o : Outcome) (r : ℕ) (fs' : List Float) (ns' : List ℕ)
      → room_for (length fs) (length ns) ≡ true
      → (o.number ≡ 0 → sound_of o.table ≡ true)
      → After fs ns o r fs' ns'
      → Answered o r fs' ns'
  answered o r fs' ns' room s h = (h.0, (h.1.0, (h.1.1.0, λ z. let a = sym h.0 ∙ z in h.1.1.1 a room (s a))))

  pub same_call : (o u : Outcome) (r : ℕ) (fs' : List Float) (ns' : List ℕ) → o ≡ u → Answered o r fs' ns' → Answered u r fs' ns'
  same_call o u r fs' ns' e h = subst (λ (v : Outcome). Answered v r fs' ns') e h

  -- 19, and nothing is written
  pub nothing-done : Answered (nothing_there fs ns) 19 fs ns
  nothing-done =
      let h = refused-after fs ns (nothing_there fs ns) 19 refl (λ z. omega (arith, z)) in
      (refl, (h.1.0, (h.1.1.0, λ z. absurd (omega (arith, z)))))

  pub on-nothing : (o : Outcome) → stands_in fs ns ≡ false → Answered (on fs ns o) 19 fs ns
  on-nothing o h = same_call (nothing_there fs ns) (on fs ns o) 19 fs ns (λ i. cond (sym h i) o (nothing_there fs ns)) nothing-done

  pub on-table : (o : Outcome) (r : ℕ) (fs' : List Float) (ns' : List ℕ) → stands_in fs ns ≡ true → Answered o r fs' ns' → Answered (on fs ns o) r fs' ns'
  on-table o r fs' ns' h = same_call o (on fs ns o) r fs' ns' (λ i. cond (sym h i) o (nothing_there fs ns))

  -- ---- a step in place: where it is done, its table v is what the lists then hold; where the record is bad, nothing is written
  pub step-laid : (u : TableStep) (k : ℕ) (v : GameState) (fs' : List Float) (ns' : List ℕ)
      → FLOATS ≤ length fs
      → NUMBERS ≤ length ns
      → done k v ≡ u
      → sound_of v ≡ true
      → Fits v
      → fs' ≡ laid_floats v zerof fs
      → ns' ≡ laid_numbers v k ns
      → Answered (stepped u) 0 fs' ns'
  step-laid u k v fs' ns' long longs e s f g h =
      let o = stepped (done k v) in
      let room : room_for (length fs) (length ns) ≡ true = simp (le-leb _ _ long, le-leb _ _ longs) in
      same_call o _ 0 fs' ns' (ap stepped e) (answered o 0 fs' ns' room (λ z. s) (accepted-after fs ns o fs' ns' refl (laid-all v zerof k fs ns fs' ns' long longs g h f)))

  step-bad : (u : TableStep) → stands_in fs ns ≡ true → refused (Added BadRecord) (table_at fs ns) ≡ u → Answered (on fs ns (stepped u)) 19 fs ns
  step-bad u there e =
      let o = stepped (refused (Added BadRecord) (table_at fs ns)) in
      on-table (stepped u) 19 fs ns there
      (same_call o _ 19 fs ns (ap stepped e) (answered o 19 fs ns (stands-room fs ns there) (λ z. absurd (omega (arith, z))) (refused-after fs ns o 19 refl (λ z. omega (arith, z)))))

  -- ---- the same by the one test for a sound table; ok is what it gave
  module _ (ok : Bool) (e : ok ≡ stands_in fs ns && sound_in ns) where
    pub sound-asked : ok ≡ true → (stands_in fs ns ≡ true) × (sound_in ns ≡ true)
    sound-asked h = and_both (stands_in fs ns) (sound_in ns) (sym e ∙ h)

    -- what a step in place asks of its caller
    pub in_place : ok ≡ true → (FLOATS ≤ length fs) × ((NUMBERS ≤ length ns) × ((words_fit ns ≡ true) × (sound_in ns ≡ true)))
    in_place h =
        let asked = sound-asked h in
        let room = room_of (length fs) (length ns) (stands-room fs ns asked.0) in
        (room.0, (room.1, (stands-fit fs ns asked.0, asked.1)))

    pub step_unsound : (u : TableStep) → ok ≡ false → (sound_of (table_at fs ns) ≡ false → refused (Added BadRecord) (table_at fs ns) ≡ u) → Answered (on fs ns (stepped u)) 19 fs ns
    unfolding sound_in
    step_unsound u h bad = ⊎_elim
        (λ there.
        let room = (room_of (length fs) (length ns) (stands-room fs ns there)).1 in
        let unsound : sound_of (table_at fs ns) ≡ false = (λ i. sym there i && (sym (le-leb NUMBERS (length ns) room) i && sound_of (table_at fs ns))) ∙ sym e ∙ h in
        step-bad u there (bad unsound))
        (λ none. on-nothing (stepped u) none)
        (either (stands_in fs ns))

  -- ---- a step of the table there; ok is what the test for it gave
  module _ (ok : Bool) (e : ok ≡ stands_in fs ns) where
    pub step-nothing : (o : Outcome) → ok ≡ false → Answered (on fs ns o) 19 fs ns
    step-nothing o h = on-nothing o (sym e ∙ h)

    pub step-done : (f : GameState → TableStep) (t : GameState) (u : TableStep) (r : ℕ) (fs' : List Float) (ns' : List ℕ)
        → ok ≡ true
        → t ≡ table_in fs ns
        → u ≡ f t
        → ((t : GameState) → verdict_number (f t).answer ≡ 0 → sound_of (f t).table ≡ true)
        → After fs ns (stepped u) r fs' ns'
        → Answered (on fs ns (stepped (f (table_at fs ns)))) r fs' ns'
    step-done f t u r fs' ns' h read g sound a =
        let there = sym e ∙ h in
        let is : stepped u ≡ stepped (f (table_at fs ns)) = ap stepped (g ∙ ap f (read ∙ table-there fs ns there)) in
        on-table _ r fs' ns' there
        (answered _ r fs' ns' (stands-room fs ns there) (sound (table_at fs ns)) (subst (λ (v : Outcome). After fs ns v r fs' ns') is a))

-- ---- what is told of an answer, or else 0
pub passed-or : (a : Result ℕ Refusal) → result_unwrap_or a 0 ≡ passed_of a
passed-or (Ok k) = refl
passed-or (Err r) = refl

pub amount-or : (a : Result Float Refusal) → result_unwrap_or a zerof ≡ amount_of a
amount-or (Ok x) = refl
amount-or (Err r) = refl
