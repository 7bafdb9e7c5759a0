-- Scripts at both sides of the rules, and amounts as they are shown: one theorem, closed by computing. Assumes nothing.
use Rattle.std.proofs.Common.{◌≡◌, ℕ, true, false, List, [], ◌∷◌, map, pos, negsuc, refl}
use Prim.Native.String.{String}
use lib.Ieee.{Float, nan, inf, fin, to_unsigned, of_int, eq, lt, le, add, is_nan, round, units, odd, size, climb, span}
use Rattle.commons.specs.Filled.{filled}
use Rattle.amounts.specs.Amounts.{sum_of, above_of, any_invalid}
use Rattle.seats.specs.Bits.{has, up_to, with, seats_where}
use Rattle.commons.specs.First.{first_from}
use Rattle.rounds.specs.Walk.{distance, walk_of}
use Rattle.table.specs.Rounds.{first_turn, advance_of, complete_of}
use Rattle.table.specs.Added.{good_added}
use Rattle.table.specs.Sound.{cards_ok, board_ok, sound_frame}
use Rattle.builder.specs.Build.{small_blind_of, data_for, built_of}
use Rattle.builder.specs.Cards.{card_rows, seen_to}
use Rattle.std.specs.Prelude.{Option, Some, None}
use Rattle.script.specs.Ascii.{bytes}
use Rattle.script.specs.Line.{asked}
use Rattle.script.specs.Number.{all_digits, unpadded, value_after, is_number}
use Rattle.script.specs.Print.{digits_in, decimal, amount_text, view_text, line_text}
use Rattle.script.specs.Split.{pieces, lines}
use Rattle.script.specs.Words.{all_numbers, firsts, lettered, words_of}
use Rattle.console.specs.Opening.{amounts_from, opening_of}
use Rattle.console.specs.Act.{needing, ranked, act_of}
use Rattle.console.specs.Shown.{amount_of, view_of}
use Rattle.console.specs.Play.{at_start, said, after, play_lines, too_long_line, play_script}

-- a script, and all that it prints
abbrev pub scripts : List (String × String)
scripts =
    ("", "")
    ∷ ("\n", "1 25 - - - -\n")
    ∷ ("n\nf\nb 1\np 1\nx\nw 0 0\nw", "1 25 - - - -\n2 25 - - - -\n3 25 - - - -\n4 25 - - - -\n5 25 - - - -\n6 25 - - - -\n7 25 - - - -\n")
    ∷ ("t 0 10 5\nt 0 10 5 0\nt 0 10 5 0 1", "1 25 - - - -\n2 3 - - - -\n3 3 - - - -\n")
    ∷ ("t 0 0 5 0 1 1 1 1 1 1 1 1 1 1 1 1 1 1 1 1 1", "1 3 - - - -\n")
    ∷ ("t 0 0 5 0 1 1 1 1 1 1 1 1 1 1 1 1 1 1 1 1 65536", "1 25 - - - -\n")
    ∷ ("t 9 0 5 0 1 1\nt 9 10 5 0 0 1\nt 9 10 5 0 1 1", "1 5 - - - -\n2 9 - - - -\n3 4 - - - -\n")
    ∷ ("t 1 10 5 0 100 100\nn\nt 0 10 5 0 0 1\nw 1\nw 1 2 3\nq\nx\n", "1 0 0 1 0 0\n2 0 1 0 0 0\n3 9 1 0 0 0\n4 25 1 0 0 0\n5 25 1 0 0 0\n6 25 1 0 0 0\n7 0 11 1 0 0\n")
    -- `k` needs no table, prints what stands, and is refused for its form alone
    ∷ ("k 3 2026 7\nk 3 2026\nk 3 2026 7 1\nk 3 2026 65536\nt 0 10 5 0 1 1\nk 3 2026 8", "1 0 - - - -\n2 25 - - - -\n3 25 - - - -\n4 25 - - - -\n5 0 0 0 0 0\n6 0 0 0 0 0\n")
    -- a bad key is the next table's 19, after 25, 3 and 4; it stands until another takes its place
    ∷ ("k 5 0 0\nt 0 10 5\nt 0 10 5 0\nt 9 10 5 0 1 1\nt 0 10 5 0 1 1\nt 0 10 5 0 1 1\nk 0 0 0\nt 0 10 5 0 1 1", "1 0 - - - -\n2 25 - - - -\n3 3 - - - -\n4 4 - - - -\n5 19 - - - -\n6 19 - - - -\n7 0 - - - -\n8 0 0 0 0 0\n")
    -- the table that stands is kept
    ∷ ("t 1 10 5 0 1 1\nn\nk 0 0 9\nt 0 10 5 0 1 1\nn", "1 0 0 1 0 0\n2 0 1 0 0 0\n3 0 1 0 0 0\n4 19 1 0 0 0\n5 0 2 0 0 0\n")
    ∷ []

-- -0.0 is 0, and 2 ^ 24 is the last that is shown
abbrev pub amounts : List (Float × Option ℕ)
amounts =
    (fin true 0 (pos 0), Some 0)
    ∷ (fin false 1 (pos 24), Some 16777216)
    ∷ (fin false 1 (pos 25), None)
    ∷ (fin false 1 (negsuc 0), None)
    ∷ (fin true 1 (pos 0), None)
    ∷ (inf false, None)
    ∷ (nan, None)
    ∷ []

pub right :
    (map (λ r. play_script (bytes r.0)) scripts ≡ map (λ r. bytes r.1) scripts)
    × (map (λ r. amount_of r.0) amounts ≡ map (λ r. r.1) amounts)
    × (too_long_line ≡ bytes "0 26 - - - -\n")
unfolding to_unsigned of_int eq lt le add is_nan round units odd size climb span filled sum_of above_of any_invalid has up_to with seats_where first_from distance walk_of small_blind_of data_for built_of card_rows seen_to first_turn advance_of complete_of cards_ok board_ok good_added sound_frame asked all_digits unpadded value_after is_number digits_in decimal amount_text view_text line_text pieces lines all_numbers firsts lettered words_of amounts_from opening_of needing ranked act_of amount_of view_of at_start said after play_lines play_script
right = (refl, refl, refl)
