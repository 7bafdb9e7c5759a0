-- A call on the round data in the lists: what its step comes to where it can be made, and 19 with nothing written where it cannot. Assumes nothing.
use Rattle.std.specs.Prelude.{Result, Ok, Err}
use Rattle.std.specs.Result.{is_ok}
use Rattle.refusals.specs.declared.Refusal.{Refusal}
use Rattle.refusals.specs.Number.{number_of}
use Rattle.refusals.specs.Rows.{verdict_number}
use Rattle.refusals.proofs.Numbers.{numbered}
use Prim.Native.Nat.{ℕ}
use native.Mathlib.Omega.{arith}
use mathlib.Core.Path.{◌≡◌, refl, sym, subst, ap, ◌∙◌}
use mathlib.Core.Bool.{Bool, true, false, cond, ◌&&◌}
use mathlib.Core.List.{List}
use lib.Dec.{leb}
use lib.ListN.{length}
use lib.Ieee.{Float, nan}
use borrow.Author.Tests.{eq-eqb, ne_eqb}
use Rattle.commons.specs.Filled.{copied}
use Rattle.commons.proofs.Bools.{and_both}
use Rattle.rounds.specs.declared.RoundData.{RoundData}
use Rattle.rounds.specs.declared.RoundStep.{RoundStep}
use Rattle.rounds.specs.Steps.{passed_of, no_data}
use Rattle.layout.specs.Laid.{data_floats, data_numbers, floats_data_laid, numbers_data_laid}
use Rattle.layout.specs.Standing.{room_for, data_fits, data_stands_in, data_at, data_read_of}
use Rattle.layout.proofs.LawsRead.{room_of}
use Rattle.peatcloak.specs.Asking.{asked_number}
use Rattle.peatcloak.proofs.LawsDataBack.{data_back}
use Rattle.peatcloak.proofs.LawsDataFits.{StepFits}
use Rattle.peatcloak.specs.Rounds.{nothing_there, on_data, data_floats_after, data_numbers_after, DataStands, amounts_asked, answers_asked, is_asked, amounts_told, answers_told}

module _ (fs : List Float) (ns : List ℕ) where
  -- the number that a step answers, and the lists after it
  abbrev pub Stepped : RoundStep → ℕ → List Float → List ℕ → Type 0
  Stepped s r fs' ns' = (r ≡ verdict_number s.answer) × ((fs' ≡ data_floats_after (length ns) s fs) × (ns' ≡ data_numbers_after (length fs) s ns))

  -- ---- a step that is accepted is laid, and one that is refused leaves the lists as they were
  module _ (s : RoundStep) where
    pub step-laid : (passed : ℕ) (fs' : List Float) (ns' : List ℕ)
        → s.answer ≡ Ok passed
        → (fs' ≡ floats_data_laid (length ns) s.round_data fs) × (ns' ≡ numbers_data_laid (length fs) s.round_data passed ns)
        → Stepped s 0 fs' ns'
    step-laid passed fs' ns' e h =
        let zero_is : verdict_number s.answer ≡ 0 = λ i. verdict_number (e i) in
        let b = sym (eq-eqb (verdict_number s.answer) 0 zero_is) in (
          sym zero_is,
          (
            h.0 ∙ (λ i. cond (b i) (floats_data_laid (length ns) s.round_data fs) fs),
            h.1 ∙ (λ i. numbers_data_laid (length fs) s.round_data (sym (λ j. passed_of (e j)) i) ns) ∙ (λ i. cond (b i) (numbers_data_laid (length fs) s.round_data (passed_of s.answer) ns) ns),
          ),
        )

    pub step_kept : (q : Refusal) (r : ℕ) → s.answer ≡ Err q → r ≡ number_of q → Stepped s r fs ns
    step_kept q r e f =
        let is : verdict_number s.answer ≡ number_of q = λ i. verdict_number (e i) in
        let b = sym (ne_eqb (verdict_number s.answer) 0 (λ z. numbered q (sym is ∙ z))) in (
          f ∙ sym is,
          (
            (λ i. cond (b i) (floats_data_laid (length ns) s.round_data fs) fs),
            (λ i. cond (b i) (numbers_data_laid (length fs) s.round_data (passed_of s.answer) ns) ns),
          ),
        )

  -- ---- what was laid stands there
  abbrev pub Stood : RoundStep → ℕ → List Float → List ℕ → Type 0
  Stood s r fs' ns' = (r ≡ verdict_number s.answer) × ((fs' ≡ data_floats_after (length ns) s fs) × ((ns' ≡ data_numbers_after (length fs) s ns) × DataStands r fs' ns' s))

  stood : (s : RoundStep) (r : ℕ) (fs' : List Float) (ns' : List ℕ) → room_for (length fs) (length ns) ≡ true → StepFits s → Stepped s r fs' ns' → Stood s r fs' ns'
  stood s r fs' ns' room fits h = (h.0, (h.1.0, (h.1.1, stands)))
    where
      stands : DataStands r fs' ns' s
      stands z =
          let d = s.round_data in
          let k = passed_of s.answer in
          let n = sym h.0 ∙ z in
          let b = eq-eqb (verdict_number s.answer) 0 n in
          let long = room_of (length fs) (length ns) room in
          (λ i. data_at (h.1.0 i) (h.1.1 i))
          ∙ (λ i. data_at (cond (b i) (cond (room i) (data_floats d fs) fs) fs) (cond (b i) (cond (room i) (data_numbers d k ns) ns) ns))
          ∙ data_back d k fs ns long.0 long.1 (fits n)

  -- ---- by the test of a call
  module _ (b : Bool) (s : RoundStep) where
    pub can-step : (u : RoundStep) (r : ℕ) (fs' : List Float) (ns' : List ℕ)
        → (b ≡ true → room_for (length fs) (length ns) ≡ true)
        → StepFits s
        → b ≡ true
        → u ≡ s
        → Stepped u r fs' ns'
        → Stood (cond b s nothing_there) r fs' ns'
    can-step u r fs' ns' room fits h e a =
        subst (λ (v : RoundStep). Stood v r fs' ns') (λ i. cond (sym h i) s nothing_there)
        (stood s r fs' ns' (room h) fits (subst (λ (v : RoundStep). Stepped v r fs' ns') e a))

    pub cannot_step : b ≡ false → Stood (cond b s nothing_there) 19 fs ns
    cannot_step h =
        subst (λ (v : RoundStep). Stood v 19 fs ns) (λ i. cond (sym h i) s nothing_there) (refl, (refl, (refl, λ z. absurd (omega (arith, z)))))

  -- ---- round data that was read: where some stands there it is that at its places
  module _ (there : Result RoundData RoundData) (e : there ≡ data_read_of fs ns) where
    -- by the tests of room and of the words
    abbrev read_by : Bool → Bool → Result RoundData RoundData
    read_by r f = cond r (cond f (Ok (data_at fs ns)) (Err (data_at fs ns))) (Err no_data)

    is-there : is_ok there ≡ data_stands_in fs ns
    unfolding data_read_of
    is-there = ap is_ok e ∙ by (room_for (length fs) (length ns)) (data_fits ns)
      where
        by : (r f : Bool) → is_ok (read_by r f) ≡ r && f
        by true true = refl
        by true false = refl
        by false f = refl

    stands : (d : RoundData) → there ≡ Ok d → data_stands_in fs ns ≡ true
    stands d f = sym is-there ∙ ap is_ok f

    pub that_is : (d : RoundData) → there ≡ Ok d → d ≡ data_at fs ns
    unfolding data_read_of
    that_is d f =
        let both = and_both (room_for (length fs) (length ns)) (data_fits ns) (stands d f) in
        let is : Ok d ≡ Ok (data_at fs ns) = sym f ∙ e ∙ λ i. read_by (both.0 i) (both.1 i) in
        cc

    pub data_stepped : (f : RoundData → RoundStep) (d : RoundData) (u : RoundStep) (r : ℕ) (fs' : List Float) (ns' : List ℕ)
        → StepFits (f (data_at fs ns))
        → there ≡ Ok d
        → u ≡ f d
        → Stepped u r fs' ns'
        → Stood (on_data fs ns (f (data_at fs ns))) r fs' ns'
    data_stepped f d u r fs' ns' fits h g =
        can-step (data_stands_in fs ns) (f (data_at fs ns)) u r fs' ns' (λ t. (and_both (room_for (length fs) (length ns)) (data_fits ns) t).0) fits (stands d h) (g ∙ ap f (that_is d h))

    pub data_nothing : (s : RoundStep) → is_ok there ≡ false → Stood (on_data fs ns s) 19 fs ns
    data_nothing s h = cannot_step (data_stands_in fs ns) s (sym is-there ∙ h)

    -- ---- what is told of it
    module _ (amounts : List Float) (answers : List ℕ) where
      abbrev room : Bool
      room = leb 1 (length amounts) && leb 3 (length answers)

      abbrev asked : Bool
      asked = is_asked fs ns (length amounts) (length answers)

      abbrev pub Told : ℕ → List Float → List ℕ → Type 0
      Told r amounts' answers' = (r ≡ asked_number asked) × ((amounts' ≡ amounts_told asked (data_at fs ns) amounts) × (answers' ≡ answers_told asked (data_at fs ns) answers))

      is-asked : (t : Bool) → room && is_ok there ≡ t → t ≡ asked
      is-asked t h = sym h ∙ λ i. room && is-there i

      pub told-all : (d : RoundData) (xs : List Float) (bs : List ℕ) (amounts' : List Float) (answers' : List ℕ)
          → room ≡ true
          → there ≡ Ok d
          → xs ≡ amounts_asked d
          → bs ≡ answers_asked d
          → amounts' ≡ copied nan 0 amounts 0 xs 1
          → answers' ≡ copied 0 0 answers 0 bs 3
          → Told 0 amounts' answers'
      told-all d xs bs amounts' answers' h q f g k l =
          let a = is-asked true (λ i. h i && ap is_ok q i) in
          let at = that_is d q in (
            (λ j. asked_number (a j)),
            (
              k ∙ (λ j. copied nan 0 amounts 0 ((f ∙ ap amounts_asked at) j) 1) ∙ (λ j. amounts_told (a j) (data_at fs ns) amounts),
              l ∙ (λ j. copied 0 0 answers 0 ((g ∙ ap answers_asked at) j) 3) ∙ (λ j. answers_told (a j) (data_at fs ns) answers),
            ),
          )

      pub told_none : room && is_ok there ≡ false → Told 19 amounts answers
      told_none h =
          let a = is-asked false h in
          ((λ j. asked_number (a j)), ((λ j. amounts_told (a j) (data_at fs ns) amounts), (λ j. answers_told (a j) (data_at fs ns) answers)))
