-- R15.31: a hand of the journal played again into a host's lists, fs and ns; `out` tells the lines. Definitions only.
use Rattle.std.specs.Prelude.{ℕ, unwrap_or, Bool, cond, ◌&&◌, List, leb, eqb, length, set, Float}
use Rattle.floats.specs.Helpers.{zerof}
use Rattle.refusals.specs.declared.JournalError.TheVariants.{BadJournal}
use Rattle.refusals.specs.Number.{journal_number}
use Rattle.recorder.specs.declared.replaying.Replayed.{Replayed}
use Rattle.recorder.specs.Replay.{replay_number, replay_bytes}
use Rattle.table.specs.With.{no_table}
use Rattle.layout.specs.Outcome.{Outcome, outcome}
use Rattle.layout.specs.Standing.{room_for}
use Rattle.layout.specs.Words.{word_of}
use Rattle.peatcloak.specs.Calls.{nothing_there}

-- a place in `out`, and room for a table
abbrev pub can_replay : ℕ → ℕ → ℕ → Bool
can_replay floats numbers out = leb 1 out && room_for floats numbers

-- the replay's number, and the table that it leads to; zeros where none stands
abbrev pub again : Replayed → Outcome
again p = outcome (replay_number p) (unwrap_or p.state.table no_table) zerof 0

abbrev pub replay_hand_on : List Float → List ℕ → List ℕ → ℕ → Outcome
replay_hand_on fs ns bytes out = cond (can_replay (length fs) (length ns) out) (again (replay_bytes bytes)) (nothing_there fs ns)

-- nothing is told of bytes that are no hand
unfoldable pub lines_told : ℕ → ℕ → List ℕ → List ℕ
lines_told number lines out = cond (eqb number (journal_number BadJournal)) out (set out 0 (word_of lines))

abbrev pub replay_out : ℕ → ℕ → List ℕ → List ℕ → List ℕ
replay_out floats numbers bytes out = cond (can_replay floats numbers (length out)) (lines_told (replay_number (replay_bytes bytes)) (replay_bytes bytes).lines out) out
