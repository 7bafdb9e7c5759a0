-- R15.24 to R15.27: a hand written for the journal from a host's lists: what each call answers, and what stands then in the lists that it may write.
-- Definitions only.
use Rattle.std.specs.Prelude.{ℕ, Result, Ok, Err, Bool, cond, ◌&&◌, List, [], ◌∷◌, leb, ltb, length, set}
use Rattle.commons.specs.Tests.{all_of}
use Rattle.refusals.specs.declared.AddedError.TheVariants.{BadRecord}
use Rattle.refusals.specs.Number.{added_number, journal_number}
use Rattle.keys.specs.Keys.{key_of}
use Rattle.journal.specs.declared.block.Title.{Title}
use Rattle.journal.specs.declared.hand.NotWritten.{NotWritten}
use Rattle.journal.specs.declared.hand.NotWritten.TheVariants.{Denied, NoRoom}
use Rattle.journal.specs.declared.laying.Laid.{Laid}
use Rattle.journal.specs.declared.laying.Laid.TheVariants.{More, Last}
use Rattle.journal.specs.declared.laying.NotLaid.{NotLaid}
use Rattle.journal.specs.declared.laying.NotLaid.TheVariants.{Denied as DeniedPart, NoRoom as NoRoomForPart}
use Rattle.journal.specs.Hand.{writes_into, bytes_after}
use Rattle.journal.specs.Lay.{lays_into, lay_after}
use Rattle.journal.specs.Tape.{put_line, tape_after}
use Rattle.layout.specs.Words.{word_at, set_at, byte_at, word_of}

-- what a call comes to: its answer, and what stands then in the tape or the bytes, and in `out`
pub record Wrote : Type 0 where
  pub number : ℕ
  pub list : List ℕ
  pub out : List ℕ

abbrev pub wrote : ℕ → List ℕ → List ℕ → Wrote
wrote r list out = record { number = r; list = list; out = out }

-- 19, and nothing is written
abbrev pub wrote_nothing : List ℕ → List ℕ → Wrote
wrote_nothing list out = wrote (added_number BadRecord) list out

-- ---- R15.24: the title of a hand: code, year, hand, edition
abbrev pub title_tests : List ℕ → List Bool
title_tests ts = leb 4 (length ts) ∷ ltb (word_at ts 0) 65536 ∷ ltb (word_at ts 1) 65536 ∷ ltb (word_at ts 3) 256 ∷ []

unfoldable pub title_fits : List ℕ → Bool
title_fits ts = all_of (title_tests ts)

unfoldable pub title_in : List ℕ → Title
title_in ts = record { key = key_of (set_at ts 0) (set_at ts 1) (word_at ts 2); edition = byte_at ts 3 }

-- ---- R15.25, R15.27: what a line or a block that is laid answers, or why none is
unfoldable pub not_laid : NotLaid → ℕ
not_laid (DeniedPart e) = journal_number e
not_laid NoRoomForPart = added_number BadRecord

unfoldable pub laid_number : {A : Type 0} → Result A NotLaid → ℕ
laid_number (Ok _) = 0
laid_number (Err e) = not_laid e

-- ---- R15.25: a line behind the entries that are used; out tells how many are used then
-- what is no byte is no letter
unfoldable pub letter_of : ℕ → ℕ
letter_of l = cond (ltb l 256) l 0

unfoldable pub put_out : Result ℕ NotLaid → List ℕ → List ℕ
put_out (Ok used) out = set out 0 (word_of used)
put_out (Err e) out = out

unfoldable pub put_line_on : List ℕ → ℕ → ℕ → List ℕ → List ℕ → Wrote
put_line_on tape used l ns out =
    let p = put_line (length tape) used l ns in
    cond (leb 1 (length out)) (wrote (laid_number p) (tape_after used l ns tape) (put_out p out)) (wrote_nothing tape out)

-- ---- R15.26: a hand in whole; out tells its blocks, where there is too little room for them too
unfoldable pub hand_number : Result ℕ NotWritten → ℕ
hand_number (Ok blocks) = 0
hand_number (Err (Denied e)) = journal_number e
hand_number (Err (NoRoom blocks)) = added_number BadRecord

unfoldable pub hand_out : Result ℕ NotWritten → List ℕ → List ℕ
hand_out (Ok blocks) out = set out 0 (word_of blocks)
hand_out (Err (Denied e)) out = out
hand_out (Err (NoRoom blocks)) out = set out 0 (word_of blocks)

unfoldable pub write_hand_on : List ℕ → List ℕ → List ℕ → List ℕ → Wrote
write_hand_on ts tape bytes out =
    let w = writes_into (length bytes) (title_in ts) tape in
    cond (leb 1 (length out) && title_fits ts) (wrote (hand_number w) (bytes_after w (title_in ts) tape bytes) (hand_out w out)) (wrote_nothing bytes out)

-- ---- R15.27: block i of a hand, from the entries that are left of it; out tells 1 where another must follow, else 0
unfoldable pub follows : Laid → ℕ
follows More = 1
follows Last = 0

unfoldable pub block_out : Result Laid NotLaid → List ℕ → List ℕ
block_out (Ok l) out = set out 0 (follows l)
block_out (Err e) out = out

unfoldable pub write_block_on : List ℕ → ℕ → List ℕ → List ℕ → List ℕ → Wrote
write_block_on ts i rest bytes out =
    let b = lays_into (length bytes) (title_in ts) i rest in
    cond (leb 1 (length out) && (ltb i 256 && title_fits ts)) (wrote (laid_number b) (lay_after b (title_in ts) i rest bytes) (block_out b out)) (wrote_nothing bytes out)
