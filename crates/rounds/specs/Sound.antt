-- R3.3: round data alone is 19 unless each of these tests holds. Definitions only.
use Rattle.std.specs.Prelude.{ℕ, ◌^◌, Bool, List, [], ◌∷◌, leb, ltb}
use Rattle.commons.specs.Tests.{all_of}
use Rattle.rounds.specs.declared.RoundData.{RoundData}

-- a list of 1 to 16 places, in which the seat to act and every owing seat have theirs
abbrev pub sound_tests : ℕ → ℕ → ℕ → List Bool
sound_tests len to owing = leb 1 len ∷ leb len 16 ∷ ltb to len ∷ ltb owing (2 ^ len) ∷ []

unfoldable pub sound_parts : ℕ → ℕ → ℕ → Bool
sound_parts len to owing = all_of (sound_tests len to owing)

abbrev pub sound_data : RoundData → Bool
sound_data d = sound_parts d.player_bet_len d.to_act_idx d.needs_action.set
