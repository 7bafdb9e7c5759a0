-- R15.14: the places of what the Rust's record lacks, from ADDED on: the key. Definitions only.
use Rattle.std.specs.Prelude.{ℕ, ◌<◌, Bool, List, [], ◌∷◌, ltb}
use Rattle.commons.specs.Filled.{copied}
use Rattle.commons.specs.Tests.{all_of}
use Rattle.keys.specs.Keys.{key_of}
use Rattle.table.specs.declared.added.Added.{Added}
use Rattle.table.specs.Added.{added_of}
use Rattle.layout.specs.Places.{ADDED, KEY_CODE, KEY_YEAR, KEY_HAND}
use Rattle.layout.specs.Words.{word_at, set_at}

-- each word is in the range of what it stands for
abbrev pub fit_tests : List ℕ → List Bool
fit_tests ns = ltb (word_at ns KEY_CODE) 65536 ∷ ltb (word_at ns KEY_YEAR) 65536 ∷ []

abbrev pub added_fits : List ℕ → Bool
added_fits ns = all_of (fit_tests ns)

unfoldable pub added_at : List ℕ → Added
added_at ns = added_of (key_of (set_at ns KEY_CODE) (set_at ns KEY_YEAR) (word_at ns KEY_HAND))

-- its words in the order of their places
abbrev pub added_words : Added → List ℕ
added_words a = a.key.code ∷ a.key.year ∷ a.key.hand ∷ []

abbrev pub laid_added : Added → List ℕ → List ℕ
laid_added a ns = copied 0 ADDED ns 0 (added_words a) 3

-- R15.16: what the types of its fields say of it
pub record AddedFit (a : Added) : Type 0 where
  pub code : a.key.code < 65536
  pub year : a.key.year < 65536
