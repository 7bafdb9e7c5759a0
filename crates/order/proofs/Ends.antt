-- How a step of the record ends: the walk brings the turn to the seat that the machine says. Assumes nothing.
use Prim.Native.Nat.{ℕ, ◌+◌, ◌%◌}
use mathlib.Core.Path.{◌≡◌}
use mathlib.Core.Bool.{true}
use Rattle.seats.specs.Bits.{has}
use Rattle.table.specs.declared.GameState.{GameState}
use Rattle.table.specs.Pay.{actor, turn_after}
use Rattle.table.specs.Sound.{sound_of}
use Rattle.table.proofs.Sound.{sound}
use Rattle.order.proofs.Walk.{gap}
use Rattle.order.proofs.Shown.{walk-next}

module _ (t : GameState) (S : sound_of t ≡ true) (owed : ℕ) where
  pub turn-next : (turn_after t owed).seat ≡ (actor t + gap t.num_players (has owed) (actor t)) % t.num_players
  turn-next = let s = sound t S in rw s.same (walk-next owed t.num_players (actor t) s.acts s.most)
