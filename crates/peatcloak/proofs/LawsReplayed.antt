-- A hand played again into the lists: what is answered, told and laid where there is room, and that nothing is where there is none. Assumes nothing.
use Rattle.std.specs.Prelude.{unwrap_or}
use Prim.Native.Nat.{ℕ, ◌<◌}
use mathlib.Core.Path.{◌≡◌, sym, ◌∙◌, subst}
use mathlib.Core.Bool.{Bool, true, false, cond}
use mathlib.Core.List.{List}
use lib.Dec.{leb}
use lib.ListN.{length}
use lib.Ieee.{Float}
use Rattle.commons.proofs.Bools.{and_both}
use Rattle.journal.specs.Check.{byte}
use Rattle.recorder.specs.declared.replaying.Replayed.{Replayed}
use Rattle.recorder.specs.Replay.{replay_number, replay_bytes}
use Rattle.recorder.proofs.LawsReplayed.{replay_sound}
use Rattle.table.specs.Sound.{sound_of}
use Rattle.table.specs.With.{no_table}
use Rattle.layout.specs.Outcome.{Outcome, floats_after, numbers_after}
use Rattle.layout.specs.Standing.{room_for}
use Rattle.layout.proofs.LawsOutcome.{After}
use Rattle.peatcloak.specs.Calls.{nothing_there, Stands}
use Rattle.peatcloak.specs.Replaying.{can_replay, again, replay_hand_on, lines_told, replay_out}
use Rattle.peatcloak.proofs.LawsCalls.{Answered, answered as laid_so, same_call, nothing-done}

module _ (fs : List Float) (ns bytes out : List ℕ) where
  abbrev o : Outcome
  o = replay_hand_on fs ns bytes (length out)

  abbrev can : Bool
  can = can_replay (length fs) (length ns) (length out)

  abbrev pub Replays : ℕ → List Float → List ℕ → List ℕ → Type 0
  Replays r fs' ns' out' =
      (r ≡ o.number) × ((fs' ≡ floats_after (length ns) o fs) × ((ns' ≡ numbers_after (length fs) o ns) × ((out' ≡ replay_out (length fs) (length ns) bytes out) × Stands r fs' ns' o)))

  with_out : (r : ℕ) (fs' : List Float) (ns' out' : List ℕ) → Answered fs ns o r fs' ns' → out' ≡ replay_out (length fs) (length ns) bytes out → Replays r fs' ns' out'
  with_out r fs' ns' out' h g = (h.0, (h.1.0, (h.1.1.0, (g, h.1.1.1))))

  pub replay_done : ((i : ℕ) → byte bytes i < 256) → can ≡ true → (p : Replayed) (r : ℕ) (fs' : List Float) (ns' out' : List ℕ)
      → p ≡ replay_bytes bytes
      → After fs ns (again p) r fs' ns'
      → out' ≡ lines_told (replay_number p) p.lines out
      → Replays r fs' ns' out'
  replay_done small h p r fs' ns' out' e a g =
      let is : again (replay_bytes bytes) ≡ o = λ i. cond (sym h i) (again (replay_bytes bytes)) (nothing_there fs ns) in
      let there-sound : replay_number (replay_bytes bytes) ≡ 0 → sound_of (unwrap_or (replay_bytes bytes).state.table no_table) ≡ true = λ z. let t = replay_sound bytes small z in (λ i. sound_of (unwrap_or (t.1 i) no_table)) ∙ t.2 in
      let room = (and_both (leb 1 (length out)) (room_for (length fs) (length ns)) h).1 in
      let laid = laid_so fs ns (again (replay_bytes bytes)) r fs' ns' room there-sound (subst (λ (v : Replayed). After fs ns (again v) r fs' ns') e a) in
      with_out r fs' ns' out' (same_call fs ns (again (replay_bytes bytes)) o r fs' ns' is laid)
      (g ∙ (λ i. lines_told (replay_number (e i)) (e i).lines out) ∙ λ i. cond (sym h i) (lines_told (replay_number (replay_bytes bytes)) (replay_bytes bytes).lines out) out)

  pub replay_nothing : can ≡ false → Replays 19 fs ns out
  replay_nothing h =
      let is : nothing_there fs ns ≡ o = λ i. cond (sym h i) (again (replay_bytes bytes)) (nothing_there fs ns) in
      with_out 19 fs ns out (same_call fs ns (nothing_there fs ns) o 19 fs ns is (nothing-done fs ns)) (λ i. cond (sym h i) (lines_told (replay_number (replay_bytes bytes)) (replay_bytes bytes).lines out) out)
