-- Section 11, settlement: the refusals in their order, what is paid, and the rewards. Definitions only.
use Rattle.std.specs.Float.{nan, binary32}
use Rattle.std.specs.Float.Ieee.{add, ne, of_int}
use Rattle.std.specs.Prelude.{ℕ, ◌+◌, Bool, cond, not, Ok, Err, List, [], ◌∷◌, replicate, ℤ, pos, ◌-ℤ◌, ◌==◌, nat_le, slice_index, slice_index_or, Float}
use Rattle.refusals.specs.declared.Refusal.{Refusal}
use Rattle.refusals.specs.declared.Refusal.TheVariants.{Added}
use Rattle.refusals.specs.declared.AddedError.TheVariants.{NobodyLeft, NotWholeChips, AlreadyPaid}
use Rattle.refusals.specs.Rows.{Row, row, judge, answer}
use Rattle.commons.specs.Tests.{all_of}
use Rattle.floats.specs.Helpers.{zerof}
use Rattle.commons.specs.Filled.{filled}
use Rattle.table.specs.declared.GameState.{GameState}
use Rattle.table.specs.Answers.{bad_record}
use Rattle.table.specs.With.{with_award}
use Rattle.chips.specs.Whole.{most, is_whole, chips_in, all_whole, sum_chips}
use Rattle.commons.specs.Folds.{any_to}
use Rattle.layers.specs.Settlement.{contends, awards_of}
use Rattle.settlement.specs.declared.Settled.{Settled}
use Rattle.settlement.specs.Hand.{chips_at, hand_of}

-- ---- the refusals
-- R11.3: 24, where some winnings differ from 0; a NaN does, -0.0 does not
unfoldable pub any_won : List Float → ℕ → Bool
any_won winnings n = any_to n (λ i. ne (slice_index_or winnings i nan) zerof)

-- R11.4: 23 unless all of these hold: the amounts are whole, stacks and pot have at most 8,000 chips, the hand bets make the pot
abbrev pub chip_tests : ℕ → List Float → List Float → List Float → Float → List Bool
chip_tests n stacks bets starting pot =
    all_whole stacks n
    ∷ all_whole bets n
    ∷ all_whole starting n
    ∷ is_whole pot
    ∷ nat_le (sum_chips stacks n + chips_in pot) most
    ∷ (chips_in pot == sum_chips bets n)
    ∷ []

unfoldable pub in_chips : ℕ → List Float → List Float → List Float → Float → Bool
in_chips n stacks bets starting pot = all_of (chip_tests n stacks bets starting pot)

abbrev pub is_paid : GameState → Bool
is_paid t = any_won t.player_winnings t.num_players

abbrev pub is_whole_table : GameState → Bool
is_whole_table t = in_chips t.num_players t.stacks t.player_bet t.starting_stacks t.total_pot

-- R11.5: whether there is a contender
abbrev pub someone : GameState → List ℕ → Bool
someone t ranks = any_to t.num_players (contends (hand_of t ranks))

-- R11.2: 19, 24, 23, 22
abbrev pub settle_rows : GameState → Bool → List Row
settle_rows t contested =
    bad_record t
    ∷ row (is_paid t) (Added AlreadyPaid)
    ∷ row (not (is_whole_table t)) (Added NotWholeChips)
    ∷ row (not contested) (Added NobodyLeft)
    ∷ []

-- ---- what is paid
-- R11.11: an amount with its award; an award of 0 writes nothing
unfoldable pub raised : Float → ℕ → Float
raised x award = cond (award == 0) x (add binary32 x (of_int binary32 (pos award)))

unfoldable pub raised_all : ℕ → List Float → List ℕ → List Float
raised_all n l awards = filled n l (λ i. raised (slice_index_or l i nan) (slice_index awards i))

-- R11.11: the record with the awards in its stacks and winnings, and the rest as it was
abbrev pub with_awards : GameState → List ℕ → GameState
with_awards t awards = with_award t (raised_all t.num_players t.stacks awards) (raised_all t.num_players t.player_winnings awards)

-- R11.12: the rewards, chips of the stack less chips of the starting stack, with a sign
abbrev pub no_rewards : List ℤ
no_rewards = replicate 16 (pos 0)

unfoldable pub rewards_of : ℕ → List Float → List Float → List ℤ
rewards_of n stacks starting = filled n no_rewards (λ i. pos (chips_at stacks i) -ℤ pos (chips_at starting i))

abbrev pub paid_out : GameState → List ℕ → Settled
paid_out t awards = record {
  answer = Ok tt;
  table = with_awards t awards;
  rewards = rewards_of t.num_players (with_awards t awards).stacks t.starting_stacks;
}

-- ---- R11.1, R11.12: the settlement; refused, the record comes back with no rewards
abbrev pub refused : GameState → Refusal → Settled
refused t r = record { answer = Err r; table = t; rewards = no_rewards }

unfoldable pub settled_of : GameState → List ℕ → Settled
settled_of t ranks = answer (paid_out t (awards_of (hand_of t ranks))) (refused t) (judge (settle_rows t (someone t ranks)))
