-- Section 4, the walk: on the owing set, the number of seats and the seat alone. Definitions only.
use Rattle.std.specs.Prelude.{ℕ, ◌+◌, ◌%◌, ◌<◌, ◌≡◌, Bool, cond, ◌&&◌, ltb, leb}
use Rattle.seats.specs.Bits.{has}
use Rattle.commons.specs.First.{first_from}
use Rattle.rounds.specs.declared.walking.Reached.{Reached}

-- R4.1: the seat d seats on from s, round a table of n; and whether it owes
abbrev pub seat_on : ℕ → ℕ → ℕ → ℕ
seat_on n s d = (s + d) % n

abbrev pub owes : ℕ → ℕ → ℕ → ℕ → Bool
owes owing n s d = has owing (seat_on n s d)

-- R4.2: how many seats the walk passes to: to the first that owes, of all n with the start itself last; one where none owes
unfoldable pub distance : ℕ → ℕ → ℕ → ℕ
distance owing n s = first_from n 1 1 (owes owing n s)

-- R4.5: a set of the owing seats as they lie ahead of s, turned so that place j is the seat j + 1 on; the start itself is place n - 1; of places from n on
-- nothing is said
abbrev pub Ahead : ℕ → ℕ → ℕ → ℕ → Type 0
Ahead owing n s set = (j : ℕ) → j < n → has set j ≡ owes owing n s (j + 1)

-- R4.3: the seat, and how many it passed to
abbrev pub reached_from : ℕ → ℕ → ℕ → Reached
reached_from owing n s = record { seat = seat_on n s (distance owing n s); passed = distance owing n s }

-- R4.4: the walk of a table of up to 16; outside one it stays where it is
unfoldable pub walk_of : ℕ → ℕ → ℕ → Reached
walk_of owing n s = cond (ltb s n && leb n 16) (reached_from owing n s) (record { seat = s; passed = 0 })
