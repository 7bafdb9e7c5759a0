-- `peatcloak::asking::answers_of`: query by query. Assumes nothing.
use mathlib.Core.List.{[], ◌∷◌}
use mathlib.Core.Path.{ap, ◌∙◌}
use Rattle.layout.specs.Words.{word_of, flag_of}
use Rattle.peatcloak.proofs.asking.answers_of.Goals as goal

pub returns : goal.returns
returns c =
    λ i.
    (c.word_of_flag.ensures ∙ ap flag_of c.is_raise_capped.ensures) i
    ∷ (c.word_of.ensures ∙ ap word_of c.num_active_players.ensures) i
    ∷ (c.word_of-2.ensures ∙ ap word_of c.num_all_in_players.ensures) i
    ∷ (c.word_of_flag-2.ensures ∙ ap flag_of c.is_complete.ensures) i
    ∷ (c.word_of-3.ensures ∙ ap word_of c.to_act_idx.ensures) i
    ∷ (c.word_of-4.ensures ∙ ap word_of c.current_round_num_active_players.ensures) i
    ∷ (c.word_of_flag-3.ensures ∙ ap flag_of c.is_sound.ensures) i
    ∷ []
