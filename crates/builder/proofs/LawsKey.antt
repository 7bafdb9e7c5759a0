-- The key of the hand in a build. A table that is built has what the builder was told of it; and nothing else hangs on it: with another good key a build has
-- the same answer, and the same table but for the key. Assumes nothing.
use Prim.Native.Nat.{ℕ}
use native.Mathlib.Omega.{arith}
use mathlib.Core.Path.{◌≡◌, refl, ◌∙◌}
use mathlib.Core.Bool.{true}
use Rattle.std.specs.Prelude.{Ok, Err}
use Rattle.refusals.specs.Rows.{Verdict, judge, answer}
use Rattle.refusals.proofs.Rows.{answer-of}
use Rattle.keys.specs.declared.HandKey.{HandKey}
use Rattle.keys.specs.Keys.{is_good}
use Rattle.table.specs.Added.{good_added}
use Rattle.table.specs.Sound.{sound_of}
use Rattle.table.specs.With.{no_table}
use Rattle.table.proofs.LawsKey.{rekeyed, sound_apart}
use Rattle.builder.specs.declared.GameStateBuilder.{GameStateBuilder}
use Rattle.builder.specs.declared.BuildStep.{BuildStep}
use Rattle.builder.specs.Build.{small_blind_of, data_for, built_of, rows_for, build_rows, built_step, not_built, build_of}
use Rattle.builder.specs.Setters.{with_key}

-- ---- an accepted build carries what was told
pub build-carries : (b : GameStateBuilder) → (build_of b).answer ≡ Ok tt → (build_of b).table.added ≡ b.added
unfolding build_of built_of
build-carries b =
    answer-of (built_step b) not_built (λ (s : BuildStep). s.answer ≡ Ok tt → s.table.added ≡ b.added) (judge (build_rows b)) (λ v e. refl)
    (λ r e. absurd (let z : ◌≡◌ {A = ℕ} 0 1 = cc in omega arith))

-- ---- a build with another key: zeros have none
abbrev pub build_rekeyed : HandKey → BuildStep → BuildStep
build_rekeyed k s = record { answer = s.answer; table = answer (rekeyed k s.table) (λ r. no_table) s.answer }

module _ (b : GameStateBuilder) (k : HandKey) (g : good_added b.added ≡ true) (h : is_good k ≡ true) where
  built_apart : built_of (with_key b k) ≡ rekeyed k (built_of b)
  unfolding built_of small_blind_of data_for
  built_apart = refl

  sound-same : sound_of (built_of (with_key b k)) ≡ sound_of (built_of b)
  unfolding built_of
  sound-same = (λ i. sound_of (built_apart i)) ∙ sound_apart (built_of b) k g h

  judged : judge (build_rows (with_key b k)) ≡ judge (build_rows b)
  unfolding small_blind_of
  judged = λ i. judge (rows_for b (sound-same i))

  given : (v : Verdict) → answer (built_step (with_key b k)) not_built v ≡ build_rekeyed k (answer (built_step b) not_built v)
  given (Ok _) = λ i. record { answer = Ok tt; table = built_apart i }
  given (Err r) = refl

  pub build_apart : build_of (with_key b k) ≡ build_rekeyed k (build_of b)
  unfolding build_of
  build_apart = (λ i. answer (built_step (with_key b k)) not_built (judged i)) ∙ given (judge (build_rows b))
