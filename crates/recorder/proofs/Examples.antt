-- Small scripts with the hands that they record, and hands played again: by computing. Assumes nothing.
use mathlib.Core.Path.{◌≡◌, refl}
use mathlib.Core.Bool.{Bool, true, false}
use mathlib.Core.List.{List, [], ◌∷◌, map}
use Prim.Native.Nat.{ℕ}
use Prim.Native.String.{String}
use lib.ListN.{replicate}
use lib.Ieee.{to_unsigned, of_int, eq, ne, lt, le, add, sub, mul, div, is_nan, round, units, odd, size, climb, span}
use Rattle.floats.specs.Helpers.{max_of, min_of, sign_of, abs_of, tol_of, near_zero}
use Rattle.commons.specs.Filled.{filled}
use Rattle.commons.specs.First.{first_from}
use Rattle.commons.specs.Folds.{sum_to, all_to, most_to, any_to}
use Rattle.amounts.specs.Amounts.{sum_of, above_of, any_invalid}
use Rattle.seats.specs.Bits.{has, up_to, with, without, count_to, seats_where}
use Rattle.rounds.specs.Paying.{owing_after}
use Rattle.rounds.specs.Walk.{distance, walk_of}
use Rattle.keys.specs.declared.HandKey.{HandKey}
use Rattle.keys.specs.Keys.{key_of, no_key}
use Rattle.table.specs.Pay.{bet_of, fold_of}
use Rattle.table.specs.Rounds.{first_turn, advance_of, complete_of}
use Rattle.table.specs.Added.{good_added}
use Rattle.table.specs.Sound.{cards_ok, board_ok, sound_frame}
use Rattle.builder.specs.Build.{small_blind_of, data_for, built_of}
use Rattle.builder.specs.Cards.{card_rows, seen_to}
use Rattle.chips.specs.Whole.{is_whole, chips_in, all_whole, sum_chips}
use Rattle.layers.specs.Sharing.{ahead, share_of}
use Rattle.layers.specs.Settlement.{contends, is_level, top, level_below, is_layer, pot_of, put_in, holds, reached, best, wins, share, award, is_payable, awards_of}
use Rattle.settlement.specs.Hand.{counted_of, after_dealer}
use Rattle.settlement.specs.Settlement.{any_won, in_chips, raised, raised_all, rewards_of, settled_of}
use Rattle.script.specs.declared.line.Words.{Words}
use Rattle.script.specs.Ascii.{bytes}
use Rattle.script.specs.Line.{asked}
use Rattle.script.specs.Number.{all_digits, unpadded, value_after, is_number}
use Rattle.script.specs.Read.{read_at}
use Rattle.script.specs.Split.{before, pieces, lines, place_of}
use Rattle.script.specs.Words.{all_numbers, firsts, lettered, words_of}
use Rattle.console.specs.Opening.{amounts_from, opening_of}
use Rattle.console.specs.Act.{needing, ranked, act_of}
use Rattle.console.specs.Play.{at_start}
use Rattle.journal.specs.Hand.{hand_ok, reads}
use Rattle.journal.specs.Lines.{tape_of}
use Rattle.std.specs.Prelude.{Err}
use Rattle.refusals.specs.declared.Refusal.TheVariants.{Journal}
use Rattle.refusals.specs.declared.JournalError.TheVariants.{BadJournal}
use Rattle.recorder.proofs.Asking.{found, key_in, entries_in, whole_in}
use Rattle.recorder.specs.Entries.{held, is_held}
use Rattle.recorder.specs.Hands.{opens, goes_in, lines_until, state_until, Recorded, hands_of, script_hands}
use Rattle.recorder.specs.Taking.{opens_at, taken, tape_taken}
use Rattle.recorder.specs.Replay.{replay_number, replayed, played_on, fresh_with, replay_of, replay_read, replay_bytes}

-- a hand by its key and its lines
abbrev pub Hand : Type 0
Hand = HandKey × List String

abbrev pub typed : List String → List Words
typed = map (λ l. words_of (bytes l))

abbrev pub scripts : List (String × List Hand)
scripts =
    -- no accepted `t`, no hand
    ("", [])
    ∷ ("k 3 2026 7\nn\nb 1\nt 0 10 5\nt 9 10 5 0 9 9", [])
    -- what stands before it goes in nowhere, and a refused `t` uses nothing up
    ∷ ("k 3 2026 7\nt 0 10 5 0\nn\nt 0 10 5 0 9 9", (key_of 3 2026 7, "t 0 10 5 0 9 9" ∷ []) ∷ [])
    -- refused lines fall away, a refused `t` too, which closes nothing
    ∷ ("t 0 10 5 0 9 9\nq\nn\nw 1 2 3\nt 0 10 5 0 0 9\nb 65535 1\nn\n", (no_key, "t 0 10 5 0 9 9" ∷ "n" ∷ "n" ∷ []) ∷ [])
    -- `k` is the next hand's, wherever it is typed
    ∷ ("k 3 2026 7\nt 0 10 5 0 9 9\nn\nk 3 2026 8\nn\nt 1 10 5 0 9 9\nx", (key_of 3 2026 7, "t 0 10 5 0 9 9" ∷ "n" ∷ "n" ∷ []) ∷ (key_of 3 2026 8, "t 1 10 5 0 9 9" ∷ "x" ∷ []) ∷ [])
    -- a second `t` without one has none
    ∷ ("k 3 2026 7\nt 0 10 5 0 9 9\nt 1 10 5 0 9 9", (key_of 3 2026 7, "t 0 10 5 0 9 9" ∷ []) ∷ (no_key, "t 1 10 5 0 9 9" ∷ []) ∷ [])
    -- a bad key refuses the `t`, and the hand goes on
    ∷ ("t 0 10 5 0 9 9\nk 5 0 0\nt 0 10 5 0 9 9\nn\nk 0 0 0\nt 1 10 5 0 9 9", (no_key, "t 0 10 5 0 9 9" ∷ "n" ∷ []) ∷ (no_key, "t 1 10 5 0 9 9" ∷ []) ∷ [])
    -- the last hand is closed by the end of the script
    ∷ ("k 3 2026 7\nt 0 10 5 0 9 9\nn\nn\nn\np 5\np 9\nf\nw 0 0\nk 1 2026 1", (key_of 3 2026 7, "t 0 10 5 0 9 9" ∷ "n" ∷ "n" ∷ "n" ∷ "p 5" ∷ "p 9" ∷ "f" ∷ "w 0 0" ∷ []) ∷ [])
    ∷ []

-- lines played again: the number, and the lines that were accepted
abbrev pub hands : List (List String × (ℕ × ℕ))
hands =
    ([], (0, 0))
    ∷ ("n" ∷ "t 0 10 5 0 9 9" ∷ [], (25, 0))
    ∷ ("t 0 10 5 0 9 9" ∷ "n" ∷ "x" ∷ [], (0, 3))
    ∷ ("t 0 10 5 0 9 9" ∷ "n" ∷ "w 1" ∷ "x" ∷ [], (25, 2))
    ∷ ("t 0 0 5 0 9 9" ∷ "n" ∷ [], (5, 0))
    ∷ []

-- a script of two hands
abbrev pub two : String
two = "k 3 2026 7\nt 0 10 5 0 9 9\nn\nk 3 2026 8\nt 0 10 5 0 9 9"

-- whether a hand is found from the script's start on, its key, its entries, whether all lines found room, and where it is closed
abbrev pub Answer : Type 0
Answer = (Bool × HandKey) × ((ℕ × Bool) × ℕ)

-- a script and the places of the tape
abbrev pub tapes : List ((String × ℕ) × Answer)
tapes =
    (("", 9), ((false, no_key), ((0, true), 0)))
    ∷ (("k 3 2026 7\nn", 9), ((false, no_key), ((0, true), 13)))
    ∷ ((two, 9), ((true, key_of 3 2026 7), ((8, true), 39)))
    ∷ ((two, 8), ((true, key_of 3 2026 7), ((8, true), 39)))
    -- `n` finds no room, and then not even the `t`
    ∷ ((two, 7), ((true, key_of 3 2026 7), ((7, false), 39)))
    ∷ ((two, 6), ((true, key_of 3 2026 7), ((0, false), 39)))
    ∷ []

-- ---- what is worked out of a row, and what the row says
abbrev pub recorded_in : String × List Hand → List (HandKey × List Words)
recorded_in r = map (λ (h : Recorded). (h.key, h.lines)) (script_hands (bytes r.0))

abbrev pub hands_said : String × List Hand → List (HandKey × List Words)
hands_said r = map (λ (h : Hand). (h.0, typed h.1)) r.1

abbrev pub taken_in : (String × ℕ) × Answer → Answer
taken_in r = let t = taken (bytes r.0.0) 0 at_start.state r.0.1 in ((found t, key_in t.hand), ((entries_in t.hand, whole_in t.hand), t.at))

abbrev pub answer_said : (String × ℕ) × Answer → Answer
answer_said r = r.1

abbrev pub played_again : List String × (ℕ × ℕ) → ℕ × ℕ
played_again r = let q = replay_of (key_of 3 2026 7) (typed r.0) in (replay_number q, q.lines)

abbrev pub end_said : List String × (ℕ × ℕ) → ℕ × ℕ
end_said r = r.1

-- a tape of ones with so many places
abbrev pub tape_in : ℕ → List ℕ
tape_in places = tape_taken (bytes two) 0 at_start.state (replicate places 1)

pub right :
    (map recorded_in scripts ≡ map hands_said scripts)
    × (map taken_in tapes ≡ map answer_said tapes)
    × (tape_in 9 ≡ 116 ∷ 0 ∷ 655360 ∷ 327680 ∷ 0 ∷ 589824 ∷ 589824 ∷ 110 ∷ 1 ∷ [])
    × (tape_in 7 ≡ 116 ∷ 0 ∷ 655360 ∷ 327680 ∷ 0 ∷ 589824 ∷ 589824 ∷ [])
    × (tape_in 2 ≡ 1 ∷ 1 ∷ [])
    × (map played_again hands ≡ map end_said hands)
    × (replay_bytes [] ≡ replayed (Err (Journal BadJournal)) 0 (fresh_with no_key))
unfolding sum_to all_to is_whole chips_in all_whole sum_chips most_to any_to ahead share_of contends is_level top level_below is_layer pot_of put_in holds reached best wins share award is_payable awards_of counted_of after_dealer any_won in_chips raised raised_all rewards_of count_to to_unsigned of_int eq ne lt le add sub mul div is_nan round units odd size climb span max_of min_of sign_of abs_of tol_of near_zero filled sum_of above_of any_invalid has up_to with without seats_where first_from distance walk_of small_blind_of data_for built_of card_rows seen_to owing_after bet_of fold_of first_turn advance_of complete_of cards_ok board_ok good_added sound_frame asked all_digits unpadded value_after is_number pieces lines all_numbers firsts lettered words_of amounts_from opening_of needing ranked act_of settled_of at_start opens goes_in lines_until state_until hands_of opens_at before place_of read_at tape_of held is_held taken tape_taken played_on hand_ok reads replay_read replay_bytes
right = (refl, refl, refl, refl, refl, refl, refl)
