-- A run computed: seat 0 bets 20, seat 1 bets 10, which is refused, and then calls. Two bets are taken, and they paid 40. Assumes nothing.
use Prim.Native.Nat.{ℕ}
use mathlib.Core.Path.{◌≡◌, refl}
use mathlib.Core.Bool.{Bool, true}
use mathlib.Core.List.{List, [], ◌∷◌}
use lib.Dec.{eqb}
use lib.IntN.{pos}
use lib.ListN.{set, replicate}
use lib.Ieee.{Float, binary32, of_int, eq, lt, le, add, sub, mul, is_nan}
use Rattle.commons.specs.First.{first_from}
use Rattle.commons.specs.Tests.{all_of}
use Rattle.floats.specs.Helpers.{zerof, max_of, min_of, abs_of, sign_of, tol_of, near_zero}
use Rattle.seats.specs.Bits.{has, with, without}
use Rattle.seats.specs.Set.{of_bits}
use Rattle.rounds.specs.declared.Round.TheVariants.{Flop}
use Rattle.rounds.specs.Paying.{owing_after}
use Rattle.rounds.specs.Steps.{new_data}
use Rattle.rounds.specs.Walk.{distance, walk_of}
use Rattle.table.specs.declared.GameState.{GameState}
use Rattle.table.specs.Added.{no_added, good_added}
use Rattle.table.specs.Pay.{bet_of}
use Rattle.table.specs.Sound.{sound_frame, board_ok, cards_ok}
use Rattle.table.specs.With.{table_of}
use Rattle.layout.specs.Outcome.{Outcome}
use Rattle.parts.specs.Run.{ran_to}

chips : ℕ → Float
chips n = of_int binary32 (pos n)

-- two seats with 100 each, both owe, and nothing is bet
start : GameState
start =
    let zeros = replicate 16 zerof in
    let stacks = set (set zeros 0 (chips 100)) 1 (chips 100) in
    table_of 2 3 0 zerof stacks stacks zeros zeros (chips 10) (chips 5) zerof 0 Flop Flop (new_data 2 (chips 10) (of_bits 3) 0) (replicate 5 0) 0 true true true 3 no_added

amounts : List Float
amounts = chips 20 ∷ chips 10 ∷ chips 20 ∷ []

-- this is taken, paid, and in the pot
shows : Outcome → ℕ → Float → Bool
shows o taken paid = all_of (eqb o.number 0 ∷ eqb o.passed taken ∷ eq o.paid paid ∷ eq o.table.total_pot paid ∷ [])

-- after the first bet, the second and the third
pub cases : List Bool
cases = shows (ran_to 1 amounts start) 1 (chips 20) ∷ shows (ran_to 2 amounts start) 1 (chips 20) ∷ shows (ran_to 3 amounts start) 2 (chips 40) ∷ []

pub right : all_of cases ≡ true
unfolding cases shows amounts start chips ran_to bet_of owing_after sound_frame board_ok cards_ok good_added walk_of distance first_from has with without max_of min_of abs_of sign_of tol_of near_zero of_int eq lt le add sub mul is_nan
right = refl
