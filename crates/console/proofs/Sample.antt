-- Document 01's worked script and its whole output, and the keys that scripts leave: by computing. Assumes nothing.
use Rattle.std.proofs.Common.{◌≡◌, ℕ, List, [], ◌∷◌, ◌++◌, map, refl}
use Prim.Native.String.{String}
use lib.Ieee.{to_unsigned, of_int, eq, ne, lt, le, add, sub, mul, div, is_nan, round, units, odd, size, climb, span}
use Rattle.std.specs.Prelude.{Option, Some, None}
use Rattle.floats.specs.Helpers.{max_of, min_of, sign_of, abs_of, tol_of, near_zero}
use Rattle.commons.specs.Filled.{filled}
use Rattle.amounts.specs.Amounts.{sum_of, above_of, any_invalid}
use Rattle.seats.specs.Bits.{has, up_to, with, without, count_to, seats_where}
use Rattle.commons.specs.First.{first_from}
use Rattle.rounds.specs.Paying.{owing_after}
use Rattle.rounds.specs.Walk.{distance, walk_of}
use Rattle.keys.specs.declared.HandKey.{HandKey}
use Rattle.keys.specs.Keys.{key_of, no_key}
use Rattle.table.specs.declared.GameState.{GameState}
use Rattle.table.specs.Pay.{bet_of, fold_of}
use Rattle.table.specs.Rounds.{first_turn, advance_of, complete_of}
use Rattle.table.specs.Added.{good_added}
use Rattle.table.specs.Sound.{cards_ok, board_ok, sound_frame}
use Rattle.builder.specs.Build.{small_blind_of, data_for, built_of}
use Rattle.builder.specs.Cards.{card_rows, seen_to}
use Rattle.commons.specs.Folds.{sum_to, all_to, most_to, any_to}
use Rattle.chips.specs.Whole.{is_whole, chips_in, all_whole, sum_chips}
use Rattle.layers.specs.Sharing.{ahead, share_of}
use Rattle.layers.specs.Settlement.{contends, is_level, top, level_below, is_layer, pot_of, put_in, holds, reached, best, wins, share, award, is_payable, awards_of}
use Rattle.settlement.specs.Hand.{counted_of, after_dealer}
use Rattle.settlement.specs.Settlement.{any_won, in_chips, raised, raised_all, rewards_of, settled_of}
use Rattle.script.specs.Ascii.{bytes}
use Rattle.script.specs.Line.{asked}
use Rattle.script.specs.Number.{all_digits, unpadded, value_after, is_number}
use Rattle.script.specs.Print.{digits_in, decimal, amount_text, view_text, line_text}
use Rattle.script.specs.Split.{pieces, lines}
use Rattle.script.specs.Words.{all_numbers, firsts, lettered, words_of}
use Rattle.console.specs.Opening.{amounts_from, opening_of}
use Rattle.console.specs.Act.{needing, ranked, act_of}
use Rattle.console.specs.Shown.{amount_of, view_of}
use Rattle.console.specs.Play.{at_start, said, after, play_lines, play_script}
use Rattle.console.specs.Ending.{state_after, end_of}

-- lines, each with its LF
abbrev pub text : List String → List ℕ
text [] = []
text (l ∷ ls) = bytes l ++ bytes "\n" ++ text ls

abbrev pub script : List String
script = "t 0 10 5 0 100 100" ∷ "n" ∷ "n" ∷ "n" ∷ "p 5" ∷ "p 10" ∷ "b 9" ∷ "b 15" ∷ "b 20" ∷ "f" ∷ "w 0 0" ∷ []

abbrev pub printed : List String
printed =
    "1 0 0 0 0 0"
    ∷ "2 0 1 1 0 0"
    ∷ "3 0 2 1 0 0"
    ∷ "4 0 3 0 0 0"
    ∷ "5 0 3 1 5 5"
    ∷ "6 0 3 0 15 10"
    ∷ "7 16 3 0 15 10"
    ∷ "8 17 3 0 15 10"
    ∷ "9 0 3 1 30 20"
    ∷ "10 0 3 0 30 20"
    ∷ "11 0 3 0 30 20"
    ∷ []

-- a script, the key that its table carries at the end, and the one that stands for the next
abbrev pub carried : List (String × (HandKey × HandKey))
carried =
    ("t 0 10 5 0 1 1", (no_key, no_key))
    ∷ ("k 3 2026 7", (no_key, key_of 3 2026 7))
    ∷ ("k 3 2026 7\nt 0 10 5 0 1 1", (key_of 3 2026 7, no_key))
    ∷ ("k 3 2026 7\nt 0 10 5 0 1 1\nn\np 1\nb 1\nf\nx\nw 1 2", (key_of 3 2026 7, no_key))
    -- a later one takes its place, and 0 0 0 clears it
    ∷ ("k 3 2026 7\nk 3 2027 7\nt 0 10 5 0 1 1", (key_of 3 2027 7, no_key))
    ∷ ("k 3 2026 7\nk 0 0 0\nt 0 10 5 0 1 1", (no_key, no_key))
    -- typed during a hand it is the next one's, which uses it up: the one after that has none
    ∷ ("k 3 2026 7\nt 0 10 5 0 1 1\nk 3 2026 8", (key_of 3 2026 7, key_of 3 2026 8))
    ∷ ("k 3 2026 7\nt 0 10 5 0 1 1\nk 3 2026 8\nt 0 10 5 0 1 1", (key_of 3 2026 8, no_key))
    ∷ ("k 3 2026 7\nt 0 10 5 0 1 1\nt 0 10 5 0 1 1", (no_key, no_key))
    -- a refused `t` uses nothing up: 25, 3, 4, 9
    ∷ ("k 3 2026 7\nt 0 10 5\nt 0 10 5 0\nt 9 10 5 0 1 1\nt 0 10 5 0 0 1", (no_key, key_of 3 2026 7))
    ∷ ("k 3 2026 7\nt 0 10 5\nt 0 10 5 0\nt 9 10 5 0 1 1\nt 0 10 5 0 1 1", (key_of 3 2026 7, no_key))
    -- nor does 19, and the table that stands keeps its key
    ∷ ("k 3 2026 7\nt 0 10 5 0 1 1\nk 5 0 0\nt 0 10 5 0 1 1", (key_of 3 2026 7, key_of 5 0 0))
    ∷ []

-- the key of the table that stands
abbrev table_key : Option GameState → HandKey
table_key None = no_key
table_key (Some t) = t.added.key

pub worked :
    (play_script (text script) ≡ text printed)
    × (map (λ r. (table_key (end_of (bytes r.0)).table, (end_of (bytes r.0)).key)) carried ≡ map (λ r. r.1) carried)
unfolding sum_to all_to is_whole chips_in all_whole sum_chips most_to any_to ahead share_of contends is_level top level_below is_layer pot_of put_in holds reached best wins share award is_payable awards_of counted_of after_dealer any_won in_chips raised raised_all rewards_of count_to to_unsigned of_int eq ne lt le add sub mul div is_nan round units odd size climb span max_of min_of sign_of abs_of tol_of near_zero filled sum_of above_of any_invalid has up_to with without seats_where first_from distance walk_of small_blind_of data_for built_of card_rows seen_to owing_after bet_of fold_of first_turn advance_of complete_of cards_ok board_ok good_added sound_frame asked all_digits unpadded value_after is_number digits_in decimal amount_text view_text line_text pieces lines all_numbers firsts lettered words_of amounts_from opening_of needing ranked act_of settled_of amount_of view_of at_start said after play_lines play_script state_after end_of
worked = (refl, refl)
