-- Of the record that is built, whatever is given, each list is zero from the number of seats on, and the board from its length on. Assumes nothing.
use Prim.Native.Nat.{ℕ, ◌≤◌, ◌<◌, min}
use native.Mathlib.Omega.{arith}
use mathlib.Core.Path.{◌≡◌, ◌∙◌}
use mathlib.Core.List.{List}
use lib.ListN.{get_or, replicate, get_or-replicate}
use lib.Ieee.{Float, nan}
use Rattle.std.specs.Prelude.{Option, Some, None}
use Rattle.std.specs.Option.{option_map_or}
use Rattle.commons.proofs.Filled.{filled-out}
use Rattle.floats.specs.Helpers.{zerof}
use Rattle.amounts.specs.Amounts.{zeros, kept_to}
use Rattle.rounds.specs.declared.RoundData.{RoundData}
use Rattle.table.specs.declared.GameState.{GameState}
use Rattle.builder.specs.declared.GameStateBuilder.{GameStateBuilder}
use Rattle.builder.specs.Build.{stacks_told, board_told, seats_of, board_len_of, dealer_of, data_kept, data_for, built_of}
use Rattle.builder.specs.Cards.{cards_to}

-- zero from place n on
abbrev pub ZeroFrom : ℕ → List Float → Type 0
ZeroFrom n l = (j : ℕ) → n ≤ j → j < 16 → get_or l j nan ≡ zerof

pub record Cleared (t : GameState) : Type 0 where
  pub stacks : ZeroFrom t.num_players t.stacks
  pub starting : ZeroFrom t.num_players t.starting_stacks
  pub bets : ZeroFrom t.num_players t.player_bet
  pub winnings : ZeroFrom t.num_players t.player_winnings
  pub round : ZeroFrom t.num_players t.round_data.player_bet
  pub board : (j : ℕ) → t.board_len ≤ j → j < 5 → get_or t.board j 0 ≡ 0

zeros-at : (j : ℕ) → j < 16 → get_or zeros j nan ≡ zerof
zeros-at j h = get_or-replicate 16 j zerof nan h

kept-zero : (n : ℕ) (l : List Float) → ZeroFrom n (kept_to n l)
kept-zero n l j h k = filled-out zeros (λ i. get_or l i nan) (min n 16) j nan (omega arith) ∙ zeros-at j k

cards-zero : (n : ℕ) (l : List ℕ) (j : ℕ) → n ≤ j → j < 5 → get_or (cards_to n l) j 0 ≡ 0
cards-zero n l j h k = filled-out (replicate 5 0) (λ i. get_or l i 0) (min n 5) j 0 (omega arith) ∙ get_or-replicate 5 j 0 0 k

-- of what is made of a value, or of none, what holds of both
mapped : {A B : Type 0} (P : B → Type 0) (f : A → B) (o : Option A) (d : B) → ((x : A) → P (f x)) → P d → P (option_map_or f o d)
mapped P f None d p q = q
mapped P f (Some x) d p q = p x

module _ (b : GameStateBuilder) where
  data_zero : (dealer : ℕ) → ZeroFrom (seats_of b) (data_for b dealer).player_bet
  unfolding data_for
  data_zero dealer =
      mapped (λ (d : RoundData). ZeroFrom (seats_of b) d.player_bet) (data_kept (seats_of b)) b.round_data _ (λ d. kept-zero (seats_of b) d.player_bet) (λ j h. zeros-at j)

  pub built-cleared : Cleared (built_of b)
  unfolding built_of
  built-cleared = record {
    stacks = kept-zero (seats_of b) (stacks_told b).list;
    starting = kept-zero (seats_of b) (stacks_told b).list;
    bets = mapped (ZeroFrom (seats_of b)) (λ g. kept_to (seats_of b) g.list) b.player_bet _ (λ g. kept-zero (seats_of b) g.list) (λ j h. zeros-at j);
    winnings = λ j h. zeros-at j;
    round = data_zero (dealer_of b);
    board = cards-zero (board_len_of b) (board_told b).list;
  }
