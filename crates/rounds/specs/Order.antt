-- R3.1: the order of the twelve rounds, and the number that the script prints. Definitions only.
use Rattle.std.specs.Prelude.{ℕ}
use Rattle.rounds.specs.declared.Round.{Round}
use Rattle.rounds.specs.declared.Round.TheVariants.{Starting, Ante, DealPreflop, Preflop, DealFlop, Flop, DealTurn, Turn, DealRiver, River, Showdown, Complete}

-- the round after r; after Complete comes nothing
abbrev pub next_of : Round → Round
next_of Starting = Ante
next_of Ante = DealPreflop
next_of DealPreflop = Preflop
next_of Preflop = DealFlop
next_of DealFlop = Flop
next_of Flop = DealTurn
next_of DealTurn = Turn
next_of Turn = DealRiver
next_of DealRiver = River
next_of River = Showdown
next_of Showdown = Complete
next_of Complete = Complete

-- 0 to 11
abbrev pub round_number : Round → ℕ
round_number Starting = 0
round_number Ante = 1
round_number DealPreflop = 2
round_number Preflop = 3
round_number DealFlop = 4
round_number Flop = 5
round_number DealTurn = 6
round_number Turn = 7
round_number DealRiver = 8
round_number River = 9
round_number Showdown = 10
round_number Complete = 11
