-- A build into the lists where they tell a builder, and 19 with nothing written where they do not. Assumes nothing.
use Prim.Native.Nat.{ℕ}
use mathlib.Core.Path.{◌≡◌, sym, subst, ap}
use mathlib.Core.Bool.{Bool, true, false, cond, ◌&&◌}
use mathlib.Core.List.{List}
use lib.ListN.{length}
use lib.Ieee.{Float}
use Rattle.commons.proofs.Bools.{and_both}
use Rattle.commons.proofs.Tests.{test_at}
use Rattle.refusals.proofs.Rows.{stands-at-zero}
use Rattle.builder.specs.declared.BuildStep.{BuildStep}
use Rattle.builder.specs.declared.GameStateBuilder.{GameStateBuilder}
use Rattle.builder.specs.Build.{build_of}
use Rattle.builder.proofs.LawsRows.{build-sound}
use Rattle.layout.specs.Outcome.{Outcome}
use Rattle.layout.specs.Standing.{room_for}
use Rattle.layout.proofs.LawsOutcome.{After}
use Rattle.peatcloak.specs.Building.{room_tests, room_to_build, tells, builder_at, built, build_on}
use Rattle.peatcloak.specs.Calls.{judged, nothing_there}
use Rattle.peatcloak.proofs.LawsCalls.{Answered, answered, same_call, nothing-done}

room_for_lem : (floats numbers amounts given : ℕ) → room_to_build floats numbers amounts given ≡ true → room_for floats numbers ≡ true
unfolding room_to_build
room_for_lem floats numbers amounts given h = let t = test_at (room_tests floats numbers amounts given) h in λ i. t 0 i && t 1 i

module _ (fs : List Float) (ns : List ℕ) (stacks bets : List Float) (board : List ℕ) (amounts : List Float) (gs : List ℕ) where
  abbrev told : Bool
  told = room_to_build (length fs) (length ns) (length amounts) (length gs) && tells (length fs) ns gs

  abbrev b : GameStateBuilder
  b = builder_at fs ns stacks bets board amounts gs

  pub build-done : (s : BuildStep) (r : ℕ) (fs' : List Float) (ns' : List ℕ)
      → told ≡ true
      → s ≡ build_of b
      → After fs ns (judged s.answer s.table) r fs' ns'
      → Answered fs ns (build_on fs ns stacks bets board amounts gs) r fs' ns'
  build-done s r fs' ns' h e a =
      let is : built s ≡ built (build_of b) = ap built e in
      let room = room_for_lem (length fs) (length ns) (length amounts) (length gs) (and_both (room_to_build (length fs) (length ns) (length amounts) (length gs)) (tells (length fs) ns gs) h).0 in
      same_call fs ns (built (build_of b)) _ r fs' ns' (λ i. cond (sym h i) (built (build_of b)) (nothing_there fs ns))
      (answered fs ns (built (build_of b)) r fs' ns' room (λ z. build-sound b (stands-at-zero (build_of b).answer z)) (subst (λ (v : Outcome). After fs ns v r fs' ns') is a))

  pub build-nothing : told ≡ false → Answered fs ns (build_on fs ns stacks bets board amounts gs) 19 fs ns
  build-nothing h = same_call fs ns (nothing_there fs ns) _ 19 fs ns (λ i. cond (sym h i) (built (build_of b)) (nothing_there fs ns)) (nothing-done fs ns)
