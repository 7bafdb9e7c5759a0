-- Section 1, seats: what the calls on a set answer; 3 where a new set is too large, 20 where there is no such seat. Definitions only.
use Rattle.std.specs.Prelude.{ℕ, Bool, false, cond, leb, ltb, Option, Some, None, Result, Ok, Err}
use Rattle.refusals.specs.declared.Refusal.{Refusal}
use Rattle.refusals.specs.declared.Refusal.TheVariants.{Build, Added}
use Rattle.refusals.specs.declared.GameStateBuilderError.TheVariants.{InvalidPlayerCount}
use Rattle.refusals.specs.declared.AddedError.TheVariants.{BadSeat}
use Rattle.seats.specs.declared.PlayerBitSet.{PlayerBitSet}
use Rattle.seats.specs.declared.SetStep.{SetStep}
use Rattle.seats.specs.declared.SeatStep.{SeatStep}
use Rattle.seats.specs.Bits.{has, up_to, with, without, next_from}

-- R1.1: the set of a number
abbrev pub of_bits : ℕ → PlayerBitSet
of_bits s = record { set = s }

-- R1.9: the set that was made, and a refusal beside the set it hands back
abbrev pub made : ℕ → SetStep
made s = record { answer = Ok tt; set = of_bits s }

abbrev pub refused : Refusal → PlayerBitSet → SetStep
refused r s = record { answer = Err r; set = s }

-- R1.2: the first n seats; above 16 refused, with nobody
unfoldable pub new_of : ℕ → SetStep
new_of n = cond (leb n 16) (made (up_to n)) (refused (Build InvalidPlayerCount) (of_bits 0))

-- R1.3, R1.4, R1.5: a seat put in, taken out, asked for
unfoldable pub enable_of : PlayerBitSet → ℕ → SetStep
enable_of s i = cond (ltb i 16) (made (with s.set i)) (refused (Added BadSeat) s)

unfoldable pub disable_of : PlayerBitSet → ℕ → SetStep
disable_of s i = cond (ltb i 16) (made (without s.set i)) (refused (Added BadSeat) s)

unfoldable pub get_of : PlayerBitSet → ℕ → SeatStep
get_of s i = cond (ltb i 16) (record { answer = Ok (has s.set i); set = s }) (record { answer = Err (Added BadSeat); set = s })

-- R1.7: the next seat of the iterator, asked from a place on
unfoldable pub ones_of : PlayerBitSet → ℕ → Option ℕ
ones_of s i = cond (ltb (next_from s.set i) 16) (Some (next_from s.set i)) None

-- R1.9: what was asked: false where refused
abbrev pub seat_is : Result Bool Refusal → Bool
seat_is (Ok b) = b
seat_is (Err r) = false

-- R1.9: the seat of the iterator's answer, 16 where none is left
abbrev pub seat_of : Option ℕ → ℕ
seat_of (Some i) = i
seat_of None = 16
