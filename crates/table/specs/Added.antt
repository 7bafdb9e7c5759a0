-- R13.9: what the Rust's record lacks: the key of the hand. Definitions only.
use Rattle.std.specs.Prelude.{Bool, List, [], ◌∷◌}
use Rattle.commons.specs.Tests.{all_of}
use Rattle.keys.specs.declared.HandKey.{HandKey}
use Rattle.keys.specs.Keys.{no_key, is_good}
use Rattle.table.specs.declared.added.Added.{Added}

abbrev pub added_of : HandKey → Added
added_of key = record { key = key }

abbrev pub no_added : Added
no_added = added_of no_key

-- its part of soundness
abbrev pub added_tests : Added → List Bool
added_tests a = is_good a.key ∷ []

unfoldable pub good_added : Added → Bool
good_added a = all_of (added_tests a)
