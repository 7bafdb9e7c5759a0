-- The builder's order as one table: each refusal by itself, each before a bad key, each pair of neighbours, where the first of the two answers, and what
-- accepted builds hold. It is closed by computing. Assumes nothing.
use Prim.Native.Nat.{ℕ}
use mathlib.Core.Path.{◌≡◌, refl}
use mathlib.Core.Bool.{Bool, true, false}
use Rattle.std.specs.Prelude.{Some, None}
use mathlib.Core.List.{List, [], ◌∷◌, ◌++◌, map}
use lib.Dec.{eqb}
use lib.IntN.{pos}
use lib.ListN.{replicate}
use lib.Ieee.{Float, nan, inf, fin, binary32, of_int, eq, lt, le, add, div, is_nan}
use Rattle.commons.specs.Filled.{filled}
use Rattle.commons.specs.Tests.{all_of}
use Rattle.refusals.specs.Rows.{verdict_number}
use Rattle.floats.specs.Helpers.{zerof}
use Rattle.amounts.specs.Amounts.{sum_of, above_of, any_invalid}
use Rattle.seats.specs.Bits.{up_to, with, seats_where}
use Rattle.seats.specs.Set.{of_bits}
use Rattle.keys.specs.declared.HandKey.{HandKey}
use Rattle.keys.specs.Keys.{key_of, no_key, is_same}
use Rattle.rounds.specs.declared.Round.TheVariants.{Flop}
use Rattle.rounds.specs.Steps.{new_data}
use Rattle.table.specs.Added.{good_added}
use Rattle.table.specs.Sound.{sound_frame, board_ok, cards_ok}
use Rattle.builder.specs.declared.GameStateBuilder.{GameStateBuilder}
use Rattle.builder.specs.Build.{small_blind_of, data_for, built_of, build_of}
use Rattle.builder.specs.Cards.{seen_to, card_rows}
use Rattle.builder.specs.Setters.{nothing, the_amounts, with_stacks, with_big_blind, with_small_blind, with_ante, with_dealer, with_round, with_board, with_hands, with_bets, with_data, with_key}

chips : ℕ → Float
chips n = of_int binary32 (pos n)

less : Float
less = fin true 1 (pos 0)

stacks : GameStateBuilder → List Float → GameStateBuilder
stacks b l = with_stacks b (the_amounts l)

-- two stacks of 100 and a big blind of 10 are enough
good : GameStateBuilder
good = with_big_blind (stacks nothing (chips 100 ∷ chips 100 ∷ [])) (Some (chips 10))

-- ---- a fault for each number
no-stacks : GameStateBuilder → GameStateBuilder
no-stacks b = with_stacks b None

no_blind : GameStateBuilder → GameStateBuilder
no_blind b = with_big_blind b None

one-seat : GameStateBuilder → GameStateBuilder
one-seat b = stacks b (chips 100 ∷ [])

zero_blind : GameStateBuilder → GameStateBuilder
zero_blind b = with_big_blind b (Some zerof)

bad-small : GameStateBuilder → GameStateBuilder
bad-small b = with_small_blind b (Some less)

bad-ante : GameStateBuilder → GameStateBuilder
bad-ante b = with_ante b (Some nan)

bad-stack : GameStateBuilder → GameStateBuilder
bad-stack b = stacks b (less ∷ chips 100 ∷ chips 100 ∷ [])

one_left : GameStateBuilder → GameStateBuilder
one_left b = stacks b (zerof ∷ chips 100 ∷ [])

far_dealer : GameStateBuilder → GameStateBuilder
far_dealer b = with_dealer b (Some 2)

three-hands : GameStateBuilder → GameStateBuilder
three-hands b = with_hands b (Some 3)

one-bet : GameStateBuilder → GameStateBuilder
one-bet b = with_bets b (the_amounts (chips 5 ∷ []))

-- seat 2 of two is to act
bad_data : GameStateBuilder → GameStateBuilder
bad_data b = with_data b (new_data 2 (chips 10) (of_bits 3) 2)

-- a code, and no year
bad-key : GameStateBuilder → GameStateBuilder
bad-key b = with_key b (key_of 5 0 0)

-- ---- the numbers
gives : ℕ → GameStateBuilder → Bool
gives n b = eqb (verdict_number (build_of b).answer) n

-- each number but 19 with its fault
faults : List (ℕ × GameStateBuilder)
faults =
    (1, no-stacks good)
    ∷ (2, no_blind good)
    ∷ (3, one-seat good)
    ∷ (5, zero_blind good)
    ∷ (6, bad-small good)
    ∷ (7, bad-ante good)
    ∷ (8, bad-stack good)
    ∷ (9, one_left good)
    ∷ (4, far_dealer good)
    ∷ (10, three-hands good)
    ∷ (11, one-bet good)
    ∷ (12, with_board good (1 ∷ 2 ∷ []))
    ∷ (18, with_board good (1 ∷ 2 ∷ 52 ∷ []))
    ∷ (13, with_board good (7 ∷ 1 ∷ 7 ∷ []))
    ∷ []

pub alone : List Bool
alone = gives 0 good ∷ gives 19 (bad_data good) ∷ gives 19 (bad-key good) ∷ map (λ f. gives f.0 f.1) faults

-- the key is looked at after all of them
pub before-key : List Bool
before-key = map (λ f. gives f.0 (bad-key f.1)) faults

pub neighbours : List Bool
neighbours =
    gives 1 (no_blind (no-stacks good))
    ∷ gives 2 (one-seat (no_blind good))
    ∷ gives 3 (zero_blind (one-seat good))
    ∷ gives 5 (bad-small (zero_blind good))
    ∷ gives 6 (bad-ante (bad-small good))
    ∷ gives 7 (bad-stack (bad-ante good))
    -- a stack below 0, and one above it
    ∷ gives 8 (stacks good (less ∷ chips 100 ∷ []))
    ∷ gives 9 (far_dealer (one_left good))
    ∷ gives 4 (three-hands (far_dealer good))
    ∷ gives 10 (one-bet (three-hands good))
    ∷ gives 11 (with_board (one-bet good) (1 ∷ 2 ∷ []))
    ∷ gives 12 (with_board good (99 ∷ 99 ∷ []))
    -- card by card
    ∷ gives 18 (with_board good (99 ∷ 99 ∷ 7 ∷ []))
    ∷ gives 13 (with_board good (7 ∷ 7 ∷ 99 ∷ []))
    ∷ gives 13 (bad_data (with_board good (7 ∷ 1 ∷ 7 ∷ [])))
    ∷ gives 18 (bad_data (with_board good (1 ∷ 2 ∷ 52 ∷ [])))
    -- 17 stacks and a big blind of 0; -0.0 as big blind, small blind and stack
    ∷ gives 3 (zero_blind (stacks good (replicate 17 (chips 100))))
    ∷ gives 5 (with_big_blind good (Some (fin true 0 (pos 0))))
    ∷ gives 0 (with_small_blind (stacks good (chips 1 ∷ chips 1 ∷ fin true 0 (pos 0) ∷ [])) (Some (fin true 0 (pos 0))))
    ∷ []

-- ---- what accepted builds hold: small blind, pot, active, all in and owing seats, cap
holds : GameStateBuilder → ℕ → ℕ → ℕ → ℕ → ℕ → Bool
holds b small pot active all_in owing =
    let t = (build_of b).table in
    all_of
    (gives 0 b
    ∷ eq t.small_blind (chips small)
    ∷ eq t.total_pot (chips pot)
    ∷ eqb t.player_active.set active
    ∷ eqb t.player_all_in.set all_in
    ∷ eqb t.round_data.needs_action.set owing
    ∷ eqb t.max_raises_per_round 3
    ∷ eqb t.round_data.to_act_idx 0
    ∷ [])

pub accepted : List Bool
accepted =
    holds good 5 0 3 0 3
    -- plus infinity passes
    ∷ holds (stacks good (inf false ∷ chips 1 ∷ [])) 5 0 3 0 3
    -- outside Starting a stack of 0 is inactive; with a bet it is all in, and active too; both owe
    ∷ holds (with_round (one_left good) Flop) 5 0 2 0 3
    ∷ holds (with_bets (with_round (one_left good) Flop) (the_amounts (chips 10 ∷ zerof ∷ []))) 5 10 3 1 3
    -- in Starting with a bet it is inactive all the same
    ∷ holds (with_bets (stacks good (zerof ∷ chips 1 ∷ chips 1 ∷ [])) (the_amounts (chips 10 ∷ zerof ∷ zerof ∷ []))) 5 10 6 0 7
    ∷ []

-- ---- which key the table carries: the one that is given, the last where two are, none by default and of a refused build
carries : GameStateBuilder → HandKey → Bool
carries b k = is_same (build_of b).table.added.key k

pub keyed : List Bool
keyed =
    carries good no_key
    ∷ carries (with_key good (key_of 3 2026 7)) (key_of 3 2026 7)
    ∷ carries (with_key good (key_of 65535 65535 4294967295)) (key_of 65535 65535 4294967295)
    ∷ carries (with_key (with_key good (key_of 3 2026 7)) (key_of 3 2027 7)) (key_of 3 2027 7)
    ∷ gives 0 (with_key (bad-key good) no_key)
    ∷ carries (with_key (bad-key good) no_key) no_key
    ∷ carries (with_key (one-seat good) (key_of 3 2026 7)) no_key
    ∷ gives 19 (with_key good (key_of 0 0 7))
    ∷ gives 0 (with_key good (key_of 0 1 0))
    ∷ []

pub right : all_of (alone ++ (before-key ++ (neighbours ++ (accepted ++ keyed)))) ≡ true
unfolding alone before-key faults neighbours accepted keyed carries bad-key holds gives good stacks less chips no-stacks no_blind one-seat zero_blind bad-small bad-ante bad-stack one_left far_dealer three-hands one-bet bad_data build_of built_of small_blind_of data_for card_rows seen_to sound_frame board_ok cards_ok good_added up_to with seats_where filled sum_of above_of any_invalid of_int eq lt le add div is_nan
right = refl
