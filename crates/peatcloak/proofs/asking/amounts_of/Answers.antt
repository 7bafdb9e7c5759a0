-- `peatcloak::asking::amounts_of`: query by query. Assumes nothing.
use mathlib.Core.List.{[], ◌∷◌}
use Rattle.peatcloak.proofs.asking.amounts_of.Goals as goal

pub returns : goal.returns
returns c =
    λ i. c.current_player_stack.ensures i ∷ c.current_player_starting_stack.ensures i ∷ c.current_round_current_player_bet.ensures i ∷ c.current_round_bet.ensures i ∷ c.current_round_player_bet.ensures i ∷ c.current_round_min_raise.ensures i ∷ []
