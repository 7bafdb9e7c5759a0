-- A round is `Starting` where its number is 0. Assumes nothing.
use mathlib.Core.Path.{◌≡◌, refl}
use denote.Enum.Bare.{sameb}
use Rattle.rounds.specs.declared.Round.{Round}
use Rattle.rounds.specs.declared.Round.TheVariants.{Starting, Ante, DealPreflop, Preflop, DealFlop, Flop, DealTurn, Turn, DealRiver, River, Showdown, Complete}
use Rattle.rounds.specs.contracts.Round.{the_type}
use Rattle.table.specs.Rounds.{is_round}

pub is-starting : (r : Round) → sameb the_type r Starting ≡ is_round r 0
is-starting Starting = refl
is-starting Ante = refl
is-starting DealPreflop = refl
is-starting Preflop = refl
is-starting DealFlop = refl
is-starting Flop = refl
is-starting DealTurn = refl
is-starting Turn = refl
is-starting DealRiver = refl
is-starting River = refl
is-starting Showdown = refl
is-starting Complete = refl
