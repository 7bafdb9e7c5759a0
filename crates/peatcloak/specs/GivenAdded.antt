-- R15.21: what a build is told of what the Rust's record lacks; gs is `given`. Definitions only.
use Rattle.std.specs.Prelude.{ℕ, Bool, cond, List, [], ◌∷◌, ltb}
use Rattle.commons.specs.Tests.{all_of}
use Rattle.keys.specs.declared.HandKey.{HandKey}
use Rattle.keys.specs.Keys.{key_of, no_key}
use Rattle.table.specs.declared.added.Added.{Added}
use Rattle.table.specs.Added.{added_of}
use Rattle.layout.specs.Places.{GIVEN_KEY, GIVEN_KEY_CODE, GIVEN_KEY_YEAR, GIVEN_KEY_HAND}
use Rattle.layout.specs.Words.{word_at, set_at, flag_at}

-- a key that is not given is none
unfoldable pub key_given : List ℕ → HandKey
key_given gs = cond (flag_at gs GIVEN_KEY) (key_of (set_at gs GIVEN_KEY_CODE) (set_at gs GIVEN_KEY_YEAR) (word_at gs GIVEN_KEY_HAND)) no_key

abbrev pub added_given : List ℕ → Added
added_given gs = added_of (key_given gs)

-- each word is in the range of what it stands for
abbrev pub added_given_tests : List ℕ → List Bool
added_given_tests gs = ltb (word_at gs GIVEN_KEY) 2 ∷ ltb (word_at gs GIVEN_KEY_CODE) 65536 ∷ ltb (word_at gs GIVEN_KEY_YEAR) 65536 ∷ []

abbrev pub added_given_fits : List ℕ → Bool
added_given_fits gs = all_of (added_given_tests gs)
