-- `peatcloak::round_calls::answers_of`: query by query. Assumes nothing.
use Rattle.refusals.specs.Rows.{verdict_number}
use mathlib.Core.List.{[], ◌∷◌}
use mathlib.Core.Path.{ap, ◌∙◌}
use Rattle.peatcloak.proofs.LawsSeats.{count_word}
use Rattle.layout.specs.Words.{word_of, flag_of}
use Rattle.peatcloak.proofs.round_calls.answers_of.Goals as goal

pub returns : goal.returns
returns c =
    λ i.
    (c.word_of.ensures ∙ ap word_of c.num_players_need_action.ensures ∙ count_word c.args.d.needs_action.set) i
    ∷ (c.word_of_flag.ensures ∙ ap flag_of c.is_action_unopened.ensures) i
    ∷ (c.word_of_byte.ensures.value ∙ c.verdict_number.ensures ∙ ap verdict_number c.current_player_bet-bet.ensures) i
    ∷ []
