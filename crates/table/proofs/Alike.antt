-- A round is another where their numbers are the same. Assumes nothing.
use mathlib.Core.Path.{◌≡◌, refl}
use denote.Enum.Bare.{sameb}
use Rattle.rounds.specs.declared.Round.{Round}
use Rattle.rounds.specs.declared.Round.TheVariants.{Starting, Ante, DealPreflop, Preflop, DealFlop, Flop, DealTurn, Turn, DealRiver, River, Showdown, Complete}
use Rattle.rounds.specs.contracts.Round.{the_type}
use Rattle.table.specs.Rounds.{is_round}

pub is-complete : (r : Round) → sameb the_type r Complete ≡ is_round r 11
is-complete Starting = refl
is-complete Ante = refl
is-complete DealPreflop = refl
is-complete Preflop = refl
is-complete DealFlop = refl
is-complete Flop = refl
is-complete DealTurn = refl
is-complete Turn = refl
is-complete DealRiver = refl
is-complete River = refl
is-complete Showdown = refl
is-complete Complete = refl

pub is-preflop : (r : Round) → sameb the_type r Preflop ≡ is_round r 3
is-preflop Starting = refl
is-preflop Ante = refl
is-preflop DealPreflop = refl
is-preflop Preflop = refl
is-preflop DealFlop = refl
is-preflop Flop = refl
is-preflop DealTurn = refl
is-preflop Turn = refl
is-preflop DealRiver = refl
is-preflop River = refl
is-preflop Showdown = refl
is-preflop Complete = refl
