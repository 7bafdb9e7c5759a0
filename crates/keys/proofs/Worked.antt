-- Keys at both sides of each rule: one theorem, closed by computing. Assumes nothing.
use mathlib.Core.Path.{◌≡◌, refl}
use mathlib.Core.Bool.{Bool, true, false}
use mathlib.Core.List.{List, [], ◌∷◌, map}
use Rattle.keys.specs.declared.HandKey.{HandKey}
use Rattle.keys.specs.Keys.{key_of, no_key, is_key, is_good, is_same, is_before}

-- a key: whether it names a hand, and whether it is good
abbrev pub alone : List (HandKey × (Bool × Bool))
alone =
    (no_key, (false, true))
    ∷ (key_of 5 0 0, (false, false))
    ∷ (key_of 0 0 7, (false, false))
    ∷ (key_of 5 0 7, (false, false))
    -- a year is enough
    ∷ (key_of 0 2026 0, (true, true))
    ∷ (key_of 65535 65535 4294967295, (true, true))
    ∷ []

-- two keys: whether they are the same, and whether the first is before the second
abbrev pub pairs : List ((HandKey × HandKey) × (Bool × Bool))
pairs =
    ((key_of 3 2026 7, key_of 3 2026 7), (true, false))
    -- two Januaries: the same table and hand number, another year
    ∷ ((key_of 3 2026 7, key_of 3 2027 7), (false, true))
    ∷ ((key_of 3 2027 7, key_of 3 2026 7), (false, false))
    -- the code decides before the year, and the year before the hand
    ∷ ((key_of 3 2027 7, key_of 4 2026 1), (false, true))
    ∷ ((key_of 3 2026 9, key_of 3 2027 1), (false, true))
    ∷ ((key_of 3 2027 1, key_of 3 2026 9), (false, false))
    ∷ ((key_of 3 2026 7, key_of 3 2026 65536), (false, true))
    ∷ ((no_key, key_of 0 1 0), (false, true))
    ∷ []

pub right :
    (map (λ r. (is_key r.0, is_good r.0)) alone ≡ map (λ r. r.1) alone)
    × (map (λ r. (is_same r.0.0 r.0.1, is_before r.0.0 r.0.1)) pairs ≡ map (λ r. r.1) pairs)
right = (refl, refl)
