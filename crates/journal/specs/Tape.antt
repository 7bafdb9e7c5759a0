-- R18.11: a line laid behind the entries of a hand. Definitions only.
use Rattle.std.specs.Prelude.{ℕ, zero, suc, ◌+◌, ◌*◌, ◌-◌, Bool, cond, not, ◌&&◌, ◌||◌, List, ◌++◌, Result, Ok, Err, ltb, leb, length, get_or, set, take, drop}
use Rattle.refusals.specs.declared.JournalError.TheVariants.{BadJournal}
use Rattle.journal.specs.Lines.{Line, count_ok, line_words}
use Rattle.journal.specs.declared.laying.NotLaid.{NotLaid}
use Rattle.journal.specs.declared.laying.NotLaid.TheVariants.{Denied, NoRoom}

abbrev pub line_given : ℕ → List ℕ → Line
line_given l ns = record { name = l; numbers = ns }

-- a letter of a hand and a count of numbers that it can have; of a `w` the hand's `t` decides later
unfoldable pub line_ok : ℕ → List ℕ → Bool
line_ok l ns = count_ok l (length ns) (length ns)

-- a tape so long has no room for a letter and so many numbers behind its first entries
unfoldable pub no_room : ℕ → ℕ → ℕ → Bool
no_room long at count = ltb long at || leb (long - at) count

unfoldable pub put_line : ℕ → ℕ → ℕ → List ℕ → Result ℕ NotLaid
put_line long at l ns = cond (line_ok l ns) (cond (no_room long at (length ns)) (Err NoRoom) (Ok (at + 1 + length ns))) (Err (Denied BadJournal))

-- the line stands behind the first entries, and what stood behind it is kept
unfoldable pub tape_after : ℕ → ℕ → List ℕ → List ℕ → List ℕ
tape_after at l ns t =
    cond (line_ok l ns && not (no_room (length t) at (length ns))) (take at t ++ line_words (line_given l ns) ++ drop (at + 1 + length ns) t) t

-- n numbers laid from a place on
unfoldable pub numbers_put : ℕ → List ℕ → ℕ → List ℕ → List ℕ
numbers_put zero l at ns = l
numbers_put (suc n) l at ns = set (numbers_put n l at ns) (at + n) (get_or ns n 0 * 65536)
