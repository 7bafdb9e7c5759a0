-- `peatcloak::round_calls::amounts_of`: the amount of the answer. Assumes nothing.
use lib.Ieee.{of_bits}
use mathlib.Core.Path.{ap, ◌∙◌}
use mathlib.Core.List.{[], ◌∷◌}
use Rattle.rounds.specs.Steps.{amount_of}
use Rattle.peatcloak.proofs.LawsCalls.{amount-or}
use Rattle.peatcloak.proofs.round_calls.amounts_of.Goals as goal

pub returns : goal.returns
unfolding of_bits
returns c = λ i. (c.unwrap_or.ensures ∙ amount-or c.current_player_bet-bet.result ∙ ap amount_of c.current_player_bet-bet.ensures) i ∷ []
