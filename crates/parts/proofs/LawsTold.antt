-- The answers of a run stand at the places that are named for them, which are those of a step's answers. Assumes nothing.
use Prim.Native.Nat.{ℕ, ◌+◌, ◌<◌, ◌≤◌}
use native.Mathlib.Omega.{arith}
use mathlib.Core.Path.{◌≡◌, refl, ◌∙◌}
use mathlib.Core.Bool.{true, cond}
use mathlib.Core.List.{List}
use lib.Dec.{eqb}
use lib.ListN.{get_or, length}
use lib.Ieee.{Float, nan}
use borrow.Author.Tests.{eq-eqb}
use Rattle.commons.specs.Filled.{copied, shared}
use Rattle.commons.proofs.Bools.{and_both}
use Rattle.commons.proofs.Filled.{filled_at, laid_out, copied-front}
use Rattle.table.specs.declared.GameState.{GameState}
use Rattle.table.specs.Sound.{sound_of}
use Rattle.layout.specs.Laid.{numbers_of, laid_numbers, amounts_of, laid_list, laid_floats}
use Rattle.layout.specs.Outcome.{Outcome, floats_after, numbers_after}
use Rattle.layout.specs.Places.{ADDED, FLOATS, NUMBERS, PAID, PASSED, STACKS, STARTING_STACKS, HAND_BETS, WINNINGS, ROUND_BETS, RUN_PAID, RUN_TAKEN}
use Rattle.layout.specs.Standing.{room_for, stands_in, table_at}
use Rattle.layout.specs.Words.{float_at, word_at, word_of}
use Rattle.layout.proofs.LawsAdded.{added_apart}
use Rattle.layout.proofs.LawsRead.{room_of, stands-room}
use Rattle.parts.proofs.LawsRun.{ran-number}
use Rattle.parts.specs.Run.{can_run, ran_to, nothing_run, run_on}

pub paid-place : RUN_PAID ≡ PAID
paid-place = refl

pub taken-place : RUN_TAKEN ≡ PASSED
taken-place = refl

-- a list that is laid leaves the places before it
before : (at : ℕ) (l fs : List Float) → RUN_PAID < at → float_at (laid_list at l fs) RUN_PAID ≡ float_at fs RUN_PAID
before at l fs h = laid_out at fs (λ k. get_or l (0 + k) nan) (shared at fs 0 l 16) RUN_PAID nan (λ i k e. omega (arith, h, e))

-- an outcome that is laid
module _ (t : GameState) (paid : Float) (passed : ℕ) (fs : List Float) (ns : List ℕ) (long : FLOATS ≤ length fs) (longs : NUMBERS ≤ length ns) where
  paid-laid : float_at (laid_floats t paid fs) RUN_PAID ≡ paid
  paid-laid =
      let base = copied nan 0 fs 0 (amounts_of t paid) 7 in
      let stacks = laid_list STACKS t.stacks base in
      let starting = laid_list STARTING_STACKS t.starting_stacks stacks in
      let bets = laid_list HAND_BETS t.player_bet starting in
      let won = laid_list WINNINGS t.player_winnings bets in
      before ROUND_BETS t.round_data.player_bet won (omega arith)
      ∙ before WINNINGS t.player_winnings bets (omega arith)
      ∙ before HAND_BETS t.player_bet starting (omega arith)
      ∙ before STARTING_STACKS t.starting_stacks stacks (omega arith)
      ∙ before STACKS t.stacks base (omega arith)
      ∙ (λ i. float_at (copied-front nan fs (amounts_of t paid) 7 7 (omega arith) i) RUN_PAID)
      ∙ filled_at fs (λ k. get_or (amounts_of t paid) k nan) 7 RUN_PAID nan (omega arith) (omega arith)

  passed-laid : word_at (laid_numbers t passed ns) RUN_TAKEN ≡ word_of passed
  passed-laid =
      added_apart t.added (copied 0 0 ns 0 (numbers_of t passed) ADDED) RUN_TAKEN (λ l h. omega arith)
      ∙ (λ i. word_at (copied-front 0 ns (numbers_of t passed) ADDED ADDED (omega arith) i) RUN_TAKEN)
      ∙ filled_at ns (λ k. get_or (numbers_of t passed) k 0) ADDED RUN_TAKEN 0 (omega arith) (omega arith)

-- ---- what was paid and how many bets were taken, where the run is made
module _ (fs : List Float) (ns : List ℕ) (l : List Float) (h : can_run fs ns ≡ true) where
  abbrev ran : Outcome
  ran = ran_to (length l) l (table_at fs ns)

  is_run : run_on fs ns l ≡ ran
  is_run i = cond (h i) ran nothing_run

  accepted : eqb ran.number 0 ≡ true
  accepted = eq-eqb _ 0 (ran-number l (table_at fs ns) (length l))

  room : room_for (length fs) (length ns) ≡ true
  room = stands-room fs ns (and_both (stands_in fs ns) (sound_of (table_at fs ns)) h).0

  pub run_paid : float_at (floats_after (length ns) (run_on fs ns l) fs) RUN_PAID ≡ ran.paid
  run_paid =
      let r = room_of (length fs) (length ns) room in
      (λ i. float_at (floats_after (length ns) (is_run i) fs) RUN_PAID)
      ∙ (λ i. float_at (cond (accepted i) (cond (room i) (laid_floats ran.table ran.paid fs) fs) fs) RUN_PAID)
      ∙ paid-laid ran.table ran.paid ran.passed fs ns r.0 r.1

  pub run_taken : word_at (numbers_after (length fs) (run_on fs ns l) ns) RUN_TAKEN ≡ word_of ran.passed
  run_taken =
      let r = room_of (length fs) (length ns) room in
      (λ i. word_at (numbers_after (length fs) (is_run i) ns) RUN_TAKEN)
      ∙ (λ i. word_at (cond (accepted i) (cond (room i) (laid_numbers ran.table ran.passed ns) ns) ns) RUN_TAKEN)
      ∙ passed-laid ran.table ran.paid ran.passed fs ns r.0 r.1
