-- R15.18: what a call on a set of seats answers, in one word: the refusal number in the upper half. Definitions only.
use Rattle.refusals.specs.Rows.{verdict_number}
use Rattle.std.specs.Prelude.{ℕ, ◌+◌, ◌*◌}
use Rattle.seats.specs.declared.SetStep.{SetStep}
use Rattle.seats.specs.declared.SeatStep.{SeatStep}
use Rattle.seats.specs.Set.{seat_is}
use Rattle.layout.specs.Words.{flag_of}

abbrev pub over : ℕ → ℕ → ℕ
over low number = low + 65536 * number

abbrev pub set_word : SetStep → ℕ
set_word s = over s.set.set (verdict_number s.answer)

abbrev pub seat_word : SeatStep → ℕ
seat_word s = over (flag_of (seat_is s.answer)) (verdict_number s.answer)
