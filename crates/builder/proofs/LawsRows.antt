-- The builder by its rows. Its number is that of the first row that holds, so that the order of its refusals is the list of its rows; a refused build is
-- zeros; an accepted one is sound, since its last row is soundness itself. Assumes nothing.
use Prim.Native.Nat.{ℕ, min}
use native.Mathlib.Omega.{arith}
use mathlib.Core.Path.{◌≡◌, refl}
use mathlib.Core.Logic.{◌≢◌}
use mathlib.Core.Bool.{true, false, not}
use mathlib.Core.List.{[], ◌∷◌, ◌++◌}
use Rattle.std.specs.Prelude.{Ok}
use Rattle.commons.proofs.Bools.{turned}
use Rattle.refusals.specs.declared.Refusal.TheVariants.{Added}
use Rattle.refusals.specs.declared.AddedError.TheVariants.{BadRecord}
use Rattle.refusals.specs.Rows.{row, judge, verdict_number}
use Rattle.refusals.proofs.Rows.{answer-number, answer-of, fails-at, later-stands}
use Rattle.table.specs.Sound.{sound_of}
use Rattle.table.specs.With.{no_table}
use Rattle.builder.specs.declared.GameStateBuilder.{GameStateBuilder}
use Rattle.builder.specs.declared.BuildStep.{BuildStep}
use Rattle.builder.specs.Build.{board_told, board_len_of, built_of, told_rows, amount_rows, list_rows, build_rows, built_step, not_built, build_of}
use Rattle.builder.specs.Cards.{card_rows}

-- ---- what they say of a build
module _ (b : GameStateBuilder) where
  -- R5.3: its order
  pub build_order : verdict_number (build_of b).answer ≡ verdict_number (judge (build_rows b))
  unfolding build_of
  build_order = answer-number (built_step b) not_built (λ (s : BuildStep). verdict_number s.answer) refl (λ r. refl) (judge (build_rows b))

  pub build-zeros : verdict_number (build_of b).answer ≢ 0 → (build_of b).table ≡ no_table
  unfolding build_of
  build-zeros = answer-of (built_step b) not_built (λ (s : BuildStep). verdict_number s.answer ≢ 0 → s.table ≡ no_table) (judge (build_rows b)) (λ e h. absurd (h refl)) (λ r h. refl)

  -- past all rows but the last
  is-sound : judge (build_rows b) ≡ Ok tt → sound_of (built_of b) ≡ true
  is-sound e =
      let cards = card_rows (min (board_len_of b) 5) 0 (board_told b).list in
      let last = row (not (sound_of (built_of b))) (Added BadRecord) ∷ [] in
      let past-told = later-stands (told_rows b) (amount_rows b ++ (list_rows b ++ (cards ++ last))) e in
      let past-amounts = later-stands (amount_rows b) (list_rows b ++ (cards ++ last)) past-told in
      let past-lists = later-stands (list_rows b) (cards ++ last) past-amounts in
      turned (sound_of (built_of b)) false (fails-at last (later-stands cards last past-lists) 0)

  pub build-sound : (build_of b).answer ≡ Ok tt → sound_of (build_of b).table ≡ true
  unfolding build_of
  build-sound =
      answer-of (built_step b) not_built (λ (s : BuildStep). s.answer ≡ Ok tt → sound_of s.table ≡ true) (judge (build_rows b)) (λ e h. is-sound e)
      (λ r h. absurd (let z : ◌≡◌ {A = ℕ} 0 1 = cc in omega arith))
