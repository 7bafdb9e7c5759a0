-- Document 01's walks P13 and P14, walks at the ends of their rule, the owing set that walks the Rust round for good, and the bets of
-- the Rust's own example of `new_with_bets`. One table, closed by computing. Assumes nothing.
use Rattle.refusals.specs.Rows.{verdict_number}
use Prim.Native.Nat.{ℕ}
use mathlib.Core.Path.{◌≡◌, refl}
use mathlib.Core.Bool.{Bool, true, ◌&&◌}
use mathlib.Core.List.{List, [], ◌∷◌}
use lib.Dec.{eqb}
use lib.IntN.{pos}
use lib.Ieee.{Float, nan, binary32, of_int, lt, eq, is_nan}
use Rattle.floats.specs.Helpers.{zerof, max_of}
use Rattle.commons.specs.Filled.{filled}
use Rattle.amounts.specs.Amounts.{largest_of, above_of}
use Rattle.commons.specs.Tests.{all_of}
use Rattle.seats.specs.Bits.{has}
use Rattle.commons.specs.First.{first_from}
use Rattle.seats.specs.Set.{of_bits}
use Rattle.rounds.specs.declared.RoundData.{RoundData}
use Rattle.rounds.specs.Sound.{sound_parts}
use Rattle.rounds.specs.Steps.{new_data, bets_data, advance_of, with_bets_of, passed_of}
use Rattle.rounds.specs.Walk.{distance, walk_of}

-- new data of n seats, seat s to act, of which these owe
at : ℕ → ℕ → ℕ → RoundData
at n s owing = new_data n zerof (of_bits owing) s

walks : RoundData → ℕ → ℕ → ℕ → Bool
walks d number seat passed =
    let r = advance_of d in
    eqb (verdict_number r.answer) number && (eqb r.round_data.to_act_idx seat && eqb (passed_of r.answer) passed)

-- the walk itself, on any set: its seat and its count
ends : ℕ → ℕ → ℕ → ℕ → ℕ → Bool
ends owing n s seat passed = eqb (walk_of owing n s).seat seat && eqb (walk_of owing n s).passed passed

chips : ℕ → Float
chips n = of_int binary32 (pos n)

given : List Float
given = zerof ∷ nan ∷ chips 10 ∷ chips 20 ∷ []

pub cases : List Bool
cases =
    -- P13: nobody owes; P14: only the start owes
    walks (at 6 5 0) 0 0 1
    ∷ walks (at 6 5 32) 0 5 6
    ∷ walks (at 6 5 9) 0 0 1
    ∷ walks (at 6 4 8) 0 3 5
    ∷ walks (at 1 0 0) 0 0 1
    -- sixteen seats: the next past the last seat, all round to the seat before the start, and to the start itself, after all sixteen
    ∷ ends 0x0001 16 15 0 1
    ∷ ends 0x8000 16 0 15 15
    ∷ ends 0x0180 16 8 7 15
    ∷ ends 0x8000 16 15 15 16
    -- seats that the table lacks are not met, whoever else owes
    ∷ ends 0x0040 6 5 0 1
    ∷ ends 0x0048 6 4 3 5
    ∷ ends 0xffe0 6 5 5 6
    -- only a seat that the table lacks owes: 19, the data as it was
    ∷ walks (at 6 5 64) 19 5 0
    ∷ walks (at 0 0 0) 19 0 0
    ∷ walks (at 6 6 1) 19 6 0
    -- the largest bet, a NaN passed over, and how many are above 0
    ∷ eq (bets_data zerof (of_bits 7) 0 given).bet (chips 20)
    ∷ eqb (bets_data zerof (of_bits 7) 0 given).total_bet_count 2
    ∷ eqb (bets_data zerof (of_bits 7) 0 given).total_raise_count 2
    ∷ eqb (verdict_number (with_bets_of zerof (of_bits 7) 0 []).answer) 19
    ∷ []

pub right : all_of cases ≡ true
unfolding cases walks ends at given chips advance_of with_bets_of sound_parts walk_of distance first_from has filled largest_of above_of max_of of_int lt eq is_nan
right = refl
