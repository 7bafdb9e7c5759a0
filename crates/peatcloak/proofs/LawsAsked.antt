-- What is told of a table in other lists: all of it where there is room and a table, and nothing with 19 else. Assumes nothing.
use Rattle.std.specs.Prelude.{Result, Ok, Err}
use Rattle.refusals.specs.declared.Refusal.{Refusal}
use Rattle.refusals.specs.Number.{number_of}
use Rattle.refusals.specs.Rows.{verdict_number}
use Rattle.refusals.proofs.Numbers.{numbered}
use Prim.Native.Nat.{ℕ, ◌≤◌}
use mathlib.Core.Path.{◌≡◌, refl, sym, subst, ◌∙◌}
use mathlib.Core.Bool.{Bool, true, false, cond, ◌&&◌}
use mathlib.Core.List.{List}
use borrow.Author.Tests.{ne_eqb, leb-true}
use lib.Dec.{leb}
use lib.ListN.{length, set}
use lib.Ieee.{Float, nan}
use Rattle.commons.specs.Filled.{copied}
use Rattle.commons.proofs.Bools.{and_both}
use Rattle.refusals.specs.declared.Refusal.TheVariants.{Added}
use Rattle.refusals.specs.declared.AddedError.TheVariants.{BadRecord}
use Rattle.rounds.specs.Steps.{amount_of}
use Rattle.table.specs.declared.GameState.{GameState}
use Rattle.table.specs.Pay.{reward_of}
use Rattle.layout.specs.Standing.{stands_in, table_at, table_in}
use Rattle.layout.proofs.LawsRead.{table-there}
use Rattle.peatcloak.specs.Asking.{reward_on, amount_after, amounts_asked, answers_asked, is_asked, asked_number, amounts_told, answers_told}

-- ok is what the test for a table gave
module _ (fs : List Float) (ns : List ℕ) (ok : Bool) (e : ok ≡ stands_in fs ns) where
  -- the test of room with that of a table, as the code makes it
  with-stands : (room t : Bool) → room && ok ≡ t → room && stands_in fs ns ≡ t
  with-stands room t h = (λ i. room && sym e i) ∙ h

  there : (room : Bool) → room && ok ≡ true → table_in fs ns ≡ table_at fs ns
  there room h = table-there fs ns (and_both room (stands_in fs ns) (with-stands room true h)).1

  -- ---- the reward
  module _ (i : ℕ) (out : List Float) where
    abbrev pub Rewarded : ℕ → List Float → Type 0
    Rewarded r out' = (r ≡ verdict_number (reward_on fs ns i (length out))) × (out' ≡ amount_after (reward_on fs ns i (length out)) out)

    pub one_place : leb 1 (length out) && ok ≡ true → 1 ≤ length out
    one_place h = leb-true _ _ (and_both (leb 1 (length out)) ok h).0

    module _ (h : leb 1 (length out) && ok ≡ true) (t : GameState) (read : t ≡ table_in fs ns) (a : Result Float Refusal) (asked : a ≡ reward_of t i) where
      is_reward : reward_on fs ns i (length out) ≡ a
      is_reward =
          (λ j. cond (with-stands (leb 1 (length out)) true h j) (reward_of (table_at fs ns) i) (Err (Added BadRecord)))
          ∙ sym (asked ∙ λ j. reward_of ((read ∙ there (leb 1 (length out)) h) j) i)

      pub rewarded : (x : Float) → a ≡ Ok x → Rewarded 0 (set out 0 x)
      rewarded x e =
          subst (λ (v : Result Float Refusal). (0 ≡ verdict_number v) × (set out 0 x ≡ amount_after v out)) (sym (is_reward ∙ e)) (refl, refl)

      pub unrewarded : (q : Refusal) (r : ℕ) → a ≡ Err q → r ≡ number_of q → Rewarded r out
      unrewarded q r e f =
          subst (λ (v : Result Float Refusal). (r ≡ verdict_number v) × (out ≡ amount_after v out)) (sym (is_reward ∙ e))
          (f, λ j. cond (sym (ne_eqb (number_of q) 0 (numbered q)) j) (set out 0 (amount_of (Err q))) out)

    pub no_reward : leb 1 (length out) && ok ≡ false → Rewarded 19 out
    no_reward h =
        subst (λ (v : Result Float Refusal). (19 ≡ verdict_number v) × (out ≡ amount_after v out))
        (λ j. cond (sym (with-stands (leb 1 (length out)) false h) j) (reward_of (table_at fs ns) i) (Err (Added BadRecord))) (refl, refl)

  -- ---- the queries
  module _ (i : ℕ) (amounts : List Float) (answers : List ℕ) where
    abbrev room : Bool
    room = leb 6 (length amounts) && leb 7 (length answers)

    abbrev asked : Bool
    asked = is_asked fs ns (length amounts) (length answers)

    abbrev pub Told : ℕ → List Float → List ℕ → Type 0
    Told r amounts' answers' = (r ≡ asked_number asked) × ((amounts' ≡ amounts_told asked (table_at fs ns) i amounts) × (answers' ≡ answers_told asked (table_at fs ns) answers))

    pub told-all : (t : GameState) (xs : List Float) (bs : List ℕ) (amounts' : List Float) (answers' : List ℕ)
        → room && ok ≡ true
        → t ≡ table_in fs ns
        → xs ≡ amounts_asked t i
        → bs ≡ answers_asked t
        → amounts' ≡ copied nan 0 amounts 0 xs 6
        → answers' ≡ copied 0 0 answers 0 bs 7
        → Told 0 amounts' answers'
    told-all t xs bs amounts' answers' h read f g k l =
        let a = sym (with-stands room true h) in
        let is = read ∙ there room h in (
          (λ j. asked_number (a j)),
          (
            k ∙ (λ j. copied nan 0 amounts 0 ((f ∙ λ z. amounts_asked (is z) i) j) 6) ∙ (λ j. amounts_told (a j) (table_at fs ns) i amounts),
            l ∙ (λ j. copied 0 0 answers 0 ((g ∙ λ z. answers_asked (is z)) j) 7) ∙ (λ j. answers_told (a j) (table_at fs ns) answers),
          ),
        )

    pub told_none : room && ok ≡ false → Told 19 amounts answers
    told_none h =
        let a = sym (with-stands room false h) in
        ((λ j. asked_number (a j)), ((λ j. amounts_told (a j) (table_at fs ns) i amounts), (λ j. answers_told (a j) (table_at fs ns) answers)))
