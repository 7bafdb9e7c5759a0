-- Hands and blocks worked out by the definitions, the right ones beside those that a tempting reading would take. Assumes nothing.
use Prim.Native.Nat.{ℕ, ◌+◌, ◌-◌}
use mathlib.Core.Path.{◌≡◌, refl}
use mathlib.Core.Bool.{Bool, true, false, cond, not, ◌&&◌}
use mathlib.Core.List.{List, [], ◌∷◌, ◌++◌, map}
use lib.Dec.{eqb}
use lib.ListN.{length, set, take, drop, replicate}
use Rattle.commons.specs.Folds.{all_to}
use Rattle.std.specs.Prelude.{Result, Ok, Err}
use Rattle.refusals.specs.declared.JournalError.{JournalError}
use Rattle.refusals.specs.Number.{journal_number}
use Rattle.keys.specs.Keys.{key_of}
use Rattle.journal.specs.Check.{sum_of, run_of, sum_check, run_check}
use Rattle.journal.specs.Entry.{two_bytes, four_bytes, all_bytes, is_letter, is_number, is_entry, two_at, four_at}
use Rattle.journal.specs.Block.{zeros, checked, head_of, body_of, block_of, block_ok, zero_at, entry_fits, entries_fit}
use Rattle.journal.specs.Lines.{Line, count_ok, all_small, rest_ok, lines_ok, tape_of, allowed, name_after, count_after, stacks_in, stacks_after, leading, spelt, spells}
use Rattle.journal.specs.Hand.{joined, block_at, hand_bytes, writes, reads, same_title, block_says, block_fits, blocks_fit, word_in, words_from, word_given, word_count, hand_ok}
use Rattle.journal.specs.Tape.{line_ok, no_room, put_line}
use Rattle.journal.specs.Lay.{all_entries, lays}
use Rattle.journal.specs.Reading.{count_given, given_from, line_from, line_read}
use Rattle.script.specs.Words.{firsts}
use Rattle.journal.specs.declared.block.Title.{Title}
use Rattle.journal.specs.declared.laying.Laid.{Laid}
use Rattle.journal.specs.declared.laying.Laid.TheVariants.{More, Last}
use Rattle.journal.specs.declared.laying.NotLaid.{NotLaid}
use Rattle.journal.specs.declared.laying.NotLaid.TheVariants.{Denied, NoRoom}
use Rattle.journal.specs.declared.reading.LineRead.{LineRead}
use Rattle.journal.specs.declared.hand.HandHead.{HandHead}

abbrev title : ℕ → ℕ → Title
title year edition = record { key = key_of 258 year 70000; edition = edition }

-- t 0 10 5 0 300 65535
abbrev table : List ℕ
table = 116 ∷ 0 ∷ 655360 ∷ 327680 ∷ 0 ∷ 19660800 ∷ 4294901760 ∷ []

-- so many lines `n` behind it
abbrev long : ℕ → List ℕ
long n = table ++ replicate n 110

-- ---- what the writer answers: the refusal's number, or 1,000 and the blocks
abbrev told : Result ℕ JournalError → ℕ
told (Err e) = journal_number e
told (Ok n) = 1000 + n

pub record Written : Type 0 where
  pub year : ℕ
  pub edition : ℕ
  pub entries : List ℕ
  pub answer : ℕ

abbrev case : ℕ → ℕ → List ℕ → ℕ → Written
case year edition entries answer = record { year = year; edition = edition; entries = entries; answer = answer }

abbrev writings : List Written
writings =
    case 2026 1 table 1001
    -- 120 entries fill a block, the next begins another
    ∷ case 2026 1 (long 113) 1001
    ∷ case 2026 1 (long 114) 1002
    -- no entries; no `t` first; a second `t`; a `k`, an `l`
    ∷ case 2026 1 [] 27
    ∷ case 2026 1 (110 ∷ []) 27
    ∷ case 2026 1 (table ++ table) 27
    ∷ case 2026 1 (table ++ (107 ∷ 0 ∷ 0 ∷ 0 ∷ [])) 27
    ∷ case 2026 1 (table ++ (108 ∷ 65536 ∷ 0 ∷ [])) 27
    -- `t` with three numbers and with four; with 17 stacks
    ∷ case 2026 1 (116 ∷ 0 ∷ 0 ∷ 0 ∷ []) 27
    ∷ case 2026 1 (116 ∷ 0 ∷ 0 ∷ 0 ∷ 0 ∷ []) 1001
    ∷ case 2026 1 (116 ∷ replicate 21 0) 1001
    -- `b` with no number and with two, `n` with one
    ∷ case 2026 1 (table ++ (98 ∷ [])) 27
    ∷ case 2026 1 (table ++ (98 ∷ 65536 ∷ 65536 ∷ [])) 27
    ∷ case 2026 1 (table ++ (110 ∷ 0 ∷ [])) 27
    -- `w` with as many numbers as stacks, with fewer, with more
    ∷ case 2026 1 (table ++ (119 ∷ 65536 ∷ 131072 ∷ [])) 1001
    ∷ case 2026 1 (table ++ (119 ∷ 65536 ∷ [])) 27
    ∷ case 2026 1 (table ++ (119 ∷ 65536 ∷ 131072 ∷ 0 ∷ [])) 27
    -- a word that is neither a letter nor a number
    ∷ case 2026 1 (table ++ (65646 ∷ [])) 27
    -- an edition that is not known; no key is 28, and 27 comes first
    ∷ case 2026 2 table 27
    ∷ case 2026 0 table 27
    ∷ case 0 1 table 28
    ∷ case 0 1 (table ++ table) 27
    ∷ case 0 2 table 27
    ∷ []

abbrev right_writing : Written → Bool
right_writing c = eqb (told (writes (title c.year c.edition) c.entries)) c.answer

abbrev all_written : List Written → Bool
all_written [] = true
all_written (c ∷ cs) = right_writing c && all_written cs

right-writings : all_written writings ≡ true
unfolding writes spells spelt allowed name_after count_after stacks_after stacks_in count_ok is_number is_letter
right-writings = refl

-- ---- what the reader refuses with 27. The check is looked at last, so that these are computed without it
abbrev read : Result HandHead JournalError → ℕ
read (Err e) = journal_number e
read (Ok h) = 1000 + h.entries

-- a hand of one block, 7 entries; one of two blocks, 120 and 1 entries
abbrev one : List ℕ
one = hand_bytes (title 2026 1) table

abbrev two : List ℕ
two = hand_bytes (title 2026 1) (long 114)

-- a block with its check put right
abbrev mended : List ℕ → List ℕ
mended b = checked (take 510 b)

abbrev bad_readings : List (List ℕ)
bad_readings =
    -- nothing, a part of a block, a byte too many, zeros
    []
    ∷ take 511 one
    ∷ (one ++ (0 ∷ []))
    ∷ replicate 512 0
    -- bytes that must be 0
    ∷ mended (set one 12 255)
    ∷ mended (set one 15 1)
    ∷ mended (set one 496 1)
    ∷ mended (set one 509 255)
    -- year 0, edition 2, block 255, a last mark of 2
    ∷ mended (set (set one 2 0) 3 0)
    ∷ mended (set one 11 2)
    ∷ mended (set one 8 255)
    ∷ mended (set one 9 2)
    -- no entries; more than a block holds; an entry behind the count; no last mark
    ∷ mended (set one 10 0)
    ∷ mended (set one 10 121)
    ∷ mended (set one 10 6)
    ∷ mended (set one 9 0)
    -- letters that are none; a letter with another byte beside it
    ∷ mended (set one 20 107)
    ∷ mended (set one 20 108)
    ∷ mended (set one 17 1)
    ∷ []

abbrev all_bad : List (List ℕ) → Bool
all_bad [] = true
all_bad (b ∷ bs) = eqb (read (reads b)) 27 && all_bad bs

right_refusals : all_bad bad_readings ≡ true
unfolding reads hand_ok blocks_fit block_fits block_says same_title block_ok zero_at entries_fit entry_fits is_entry is_number is_letter all_to two_at four_at sum_check run_check sum_of run_of hand_bytes joined block_at block_of body_of head_of two_bytes four_bytes all_bytes zeros
right_refusals = refl

-- ---- a block that is not the last is filled. Of these two blocks the first says 119 entries; its check is right, and with the zero behind
-- its `b` the entries would spell a hand, so that nothing else refuses it. With 120 it is one, of 121 entries
abbrev unfilled : List ℕ
unfilled = block_of (title 2026 1) 0 0 (long 111 ++ (98 ∷ [])) ++ block_of (title 2026 1) 1 1 (110 ∷ [])

abbrev filled : List ℕ
filled = block_of (title 2026 1) 0 0 (long 111 ++ (98 ∷ 0 ∷ [])) ++ block_of (title 2026 1) 1 1 (110 ∷ [])

right_filling : map (λ b. read (reads b)) (unfilled ∷ filled ∷ []) ≡ 27 ∷ 1121 ∷ []
unfolding reads hand_ok blocks_fit block_fits block_says same_title block_ok zero_at entries_fit entry_fits is_entry is_number is_letter all_to two_at four_at sum_check run_check sum_of run_of word_count words_from word_in spells spelt allowed name_after count_after stacks_after stacks_in count_ok block_of body_of head_of two_bytes four_bytes all_bytes zeros
right_filling = refl

-- ---- what a block says of its place: whether it is block i of n of the hand
pub record Said : Type 0 where
  pub count : ℕ
  pub index : ℕ
  pub block : List ℕ
  pub answer : Bool

abbrev says : ℕ → ℕ → List ℕ → Bool → Said
says n i b t = record { count = n; index = i; block = b; answer = t }

abbrev sayings : List Said
sayings =
    says 2 0 (take 512 two) true
    ∷ says 2 1 (drop 512 two) true
    ∷ says 1 0 one true
    -- out of order; the first alone; a closed hand read on; no last mark
    ∷ says 2 0 (drop 512 two) false
    ∷ says 2 1 (take 512 two) false
    ∷ says 1 0 (take 512 two) false
    ∷ says 2 0 one false
    ∷ says 2 0 (set (take 512 two) 9 1) false
    ∷ says 2 1 (set (drop 512 two) 9 0) false
    -- another code, year, hand or edition
    ∷ says 2 1 (set (drop 512 two) 0 3) false
    ∷ says 2 1 (set (drop 512 two) 2 235) false
    ∷ says 2 1 (set (drop 512 two) 4 113) false
    ∷ says 2 1 (set (drop 512 two) 7 1) false
    ∷ says 2 1 (set (drop 512 two) 11 2) false
    ∷ []

abbrev same : Bool → Bool → Bool
same t u = cond t u (not u)

abbrev all_said : List Said → Bool
all_said [] = true
all_said (c ∷ cs) = same (block_says (title 2026 1) c.count c.index c.block) c.answer && all_said cs

right-sayings : all_said sayings ≡ true
unfolding block_says same_title two_at four_at hand_bytes joined block_at block_of body_of head_of two_bytes four_bytes all_bytes zeros
right-sayings = refl

-- ---- the block of `table`, byte by byte: its head and its entries; then zeros; then its check. Its bytes add to 1,069, which is 49
-- modulo 255 and 45 modulo 256; the running totals add to 4, and not to 49 again
front : take 44 one ≡ 2 ∷ 1 ∷ 234 ∷ 7 ∷ 112 ∷ 17 ∷ 1 ∷ 0 ∷ 0 ∷ 1 ∷ 7 ∷ 1 ∷ 0 ∷ 0 ∷ 0 ∷ 0 ∷ 116 ∷ 0 ∷ 0 ∷ 0 ∷ 0 ∷ 0 ∷ 0 ∷ 0 ∷ 0 ∷ 0 ∷ 10 ∷ 0 ∷ 0 ∷ 0 ∷ 5 ∷ 0 ∷ 0 ∷ 0 ∷ 0 ∷ 0 ∷ 0 ∷ 0 ∷ 44 ∷ 1 ∷ 0 ∷ 0 ∷ 255 ∷ 255 ∷ []
unfolding hand_bytes joined block_at block_of body_of head_of two_bytes four_bytes all_bytes zeros
front = refl

behind : take 466 (drop 44 one) ≡ replicate 466 0
unfolding hand_bytes joined block_at block_of body_of head_of two_bytes four_bytes all_bytes zeros
behind = refl

check : drop 510 one ≡ 49 ∷ 4 ∷ []
unfolding hand_bytes joined block_at block_of body_of head_of two_bytes four_bytes all_bytes zeros sum_check run_check sum_of run_of
check = refl

-- ---- t 0 10 5 0 300 65535, p 5, n, b 10, f, w 1 2: its lines as entries
abbrev hand : List Line
hand =
    record { name = 116; numbers = 0 ∷ 10 ∷ 5 ∷ 0 ∷ 300 ∷ 65535 ∷ [] } ∷ record { name = 112; numbers = 5 ∷ [] } ∷ record { name = 110; numbers = [] }
    ∷ record { name = 98; numbers = 10 ∷ [] } ∷ record { name = 102; numbers = [] } ∷ record { name = 119; numbers = 1 ∷ 2 ∷ [] } ∷ []

good : lines_ok hand ≡ true
unfolding lines_ok rest_ok count_ok all_small
good = refl

tape : tape_of hand ≡ table ++ (112 ∷ 327680 ∷ 110 ∷ 98 ∷ 655360 ∷ 102 ∷ 119 ∷ 65536 ∷ 131072 ∷ [])
unfolding tape_of
tape = refl

-- ---- what is answered of a block that is laid alone: the refusal's number, 1,001 where another follows, 1,002 for the last
abbrev answered : Result Laid JournalError → ℕ
answered (Err e) = journal_number e
answered (Ok More) = 1001
answered (Ok Last) = 1002

pub record Laying : Type 0 where
  pub year : ℕ
  pub index : ℕ
  pub left : List ℕ
  pub answer : ℕ

abbrev lay : ℕ → ℕ → List ℕ → ℕ → Laying
lay year index left answer = record { year = year; index = index; left = left; answer = answer }

abbrev layings : List Laying
layings =
    -- 120 entries make one block, one more asks for another
    lay 2026 0 (long 113) 1002
    ∷ lay 2026 0 (long 114) 1001
    -- block 254 is the last that there is
    ∷ lay 2026 254 (long 113) 1002
    ∷ lay 2026 254 (long 114) 28
    ∷ lay 2026 255 (110 ∷ []) 28
    -- no key is 28; an entry that is none, or none at all, is 27, which comes first
    ∷ lay 0 0 table 28
    ∷ lay 2026 0 (table ++ (107 ∷ [])) 27
    ∷ lay 0 255 (table ++ (107 ∷ [])) 27
    ∷ lay 0 255 [] 27
    -- what stands behind the 120 is not looked at yet
    ∷ lay 2026 0 (long 113 ++ (107 ∷ [])) 1001
    ∷ []

abbrev right_laying : Laying → Bool
right_laying c = eqb (answered (lays (title c.year 1) c.index c.left)) c.answer

abbrev all_laid : List Laying → Bool
all_laid [] = true
all_laid (c ∷ cs) = right_laying c && all_laid cs

right-layings : all_laid layings ≡ true
unfolding lays all_entries all_to is_entry is_number is_letter
right-layings = refl

-- ---- what is answered of a line laid behind 7 entries: 27, 0 for too little room, or 1,000 and the entries then
abbrev put : Result ℕ NotLaid → ℕ
put (Err (Denied e)) = journal_number e
put (Err NoRoom) = 0
put (Ok n) = 1000 + n

pub record Placing : Type 0 where
  pub places : ℕ
  pub name : ℕ
  pub numbers : List ℕ
  pub answer : ℕ

abbrev place : ℕ → ℕ → List ℕ → ℕ → Placing
place places name numbers answer = record { places = places; name = name; numbers = numbers; answer = answer }

abbrev placings : List Placing
placings =
    -- `b 10` takes two places, of which one is not enough
    place 9 98 (10 ∷ []) 1009
    ∷ place 8 98 (10 ∷ []) 0
    ∷ place 7 110 [] 0
    ∷ place 6 110 [] 0
    -- `n` with a number; `t` with three numbers and with four; a `k`; 27 comes before the room
    ∷ place 9 110 (0 ∷ []) 27
    ∷ place 20 116 (0 ∷ 0 ∷ 0 ∷ []) 27
    ∷ place 20 116 (0 ∷ 0 ∷ 0 ∷ 0 ∷ []) 1012
    ∷ place 20 107 (0 ∷ 0 ∷ 0 ∷ []) 27
    ∷ place 0 110 (0 ∷ []) 27
    -- `w` with any count
    ∷ place 20 119 [] 1008
    ∷ place 20 119 (1 ∷ 2 ∷ 3 ∷ []) 1011
    ∷ []

abbrev right_placing : Placing → Bool
right_placing c = eqb (put (put_line c.places 7 c.name c.numbers)) c.answer

abbrev all_placed : List Placing → Bool
all_placed [] = true
all_placed (c ∷ cs) = right_placing c && all_placed cs

right-placings : all_placed placings ≡ true
unfolding put_line line_ok no_room count_ok
right-placings = refl

-- ---- the lines of `hand` as they are played: the first, the next, the last; at the end there is none, and the place stays
abbrev line : ℕ → List ℕ → ℕ → LineRead
line name numbers next = record { words = record { letter = name; count = length numbers; numbers = numbers ++ replicate (20 - length numbers) 0 }; next = next }

abbrev played : List LineRead
played =
    line 116 (0 ∷ 10 ∷ 5 ∷ 0 ∷ 300 ∷ 65535 ∷ []) 7
    ∷ line 112 (5 ∷ []) 9
    ∷ line 119 (1 ∷ 2 ∷ []) 16
    ∷ line 0 [] 16
    ∷ line 0 [] 17
    ∷ []

right-lines : map (line_read (hand_bytes (title 2026 1) (tape_of hand))) (0 ∷ 7 ∷ 13 ∷ 16 ∷ 17 ∷ []) ≡ played
unfolding line_read line_from given_from count_given word_given word_count word_in leading firsts is_number four_at hand_bytes joined block_at block_of body_of head_of two_bytes four_bytes all_bytes zeros tape_of
right-lines = refl
