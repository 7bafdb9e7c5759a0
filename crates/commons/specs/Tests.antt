-- R16.2: a list of tests, all of which are to hold. Definitions only.
use Rattle.std.specs.Prelude.{Bool, true, ◌&&◌, List, [], ◌∷◌}

abbrev pub all_of : List Bool → Bool
all_of [] = true
all_of (t ∷ []) = t
all_of (t ∷ u ∷ ts) = t && all_of (u ∷ ts)
