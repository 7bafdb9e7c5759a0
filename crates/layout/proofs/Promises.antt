-- Any pair of results that the `ensures` of a public function allows is equal, each by the one law `same`. The checker writes `ended`, the function's
-- signature, and `Learnt`, what a caller learns from its `ensures`. `.ci/functions --check` asks a line for each public function. Assumes nothing.
use Rattle.commons.proofs.OneResult.{OneResult, same, only, ◌and◌, past, first}
use Rattle.layout.proofs as crate
use Rattle.layout.specs.contracts as promised

-- ---- src/laying.rt
pub laying-lay : OneResult promised.laying.lay.ended crate.laying.lay.Reads.Learnt
laying-lay κs a x y = past (same and only (first same))

pub laying-lay_data : OneResult promised.laying.lay_data.ended crate.laying.lay_data.Reads.Learnt
laying-lay_data κs a x y = past (same and only same)

-- ---- src/outcome.rt
pub outcome-lay : OneResult promised.outcome.lay.ended crate.outcome.lay.Reads.Learnt
outcome-lay κs a x y = same and same and only (first same)

-- ---- src/standing.rt
pub standing-stands : OneResult promised.standing.stands.ended crate.standing.stands.Reads.Learnt
standing-stands κs a x y = only same

pub standing-is-sound : OneResult promised.standing.is_sound.ended crate.standing.is_sound.Reads.Learnt
standing-is-sound κs a x y = only same

pub standing-stands-sound : OneResult promised.standing.stands_sound.ended crate.standing.stands_sound.Reads.Learnt
standing-stands-sound κs a x y = only same

pub standing-table : OneResult promised.standing.table.ended crate.standing.table.Reads.Learnt
standing-table κs a x y = only same

pub standing-read_data : OneResult promised.standing.read_data.ended crate.standing.read_data.Reads.Learnt
standing-read_data κs a x y = only same

-- ---- src/words.rt
pub words-word-at : OneResult promised.words.word_at.ended crate.words.word_at.Reads.Learnt
words-word-at κs a x y = only same

pub words-number-of : OneResult promised.words.number_of.ended crate.words.number_of.Reads.Learnt
words-number-of κs a x y = only same

pub words-number-at : OneResult promised.words.number_at.ended crate.words.number_at.Reads.Learnt
words-number-at κs a x y = only same

pub words-set-of : OneResult promised.words.set_of.ended crate.words.set_of.Reads.Learnt
words-set-of κs a x y = only same

pub words-set-at : OneResult promised.words.set_at.ended crate.words.set_at.Reads.Learnt
words-set-at κs a x y = only same

pub words-byte-at : OneResult promised.words.byte_at.ended crate.words.byte_at.Reads.Learnt
words-byte-at κs a x y = only same

pub words-flag-at : OneResult promised.words.flag_at.ended crate.words.flag_at.Reads.Learnt
words-flag-at κs a x y = only same

pub words-is-below : OneResult promised.words.is_below.ended crate.words.is_below.Reads.Learnt
words-is-below κs a x y = only same

pub words-round-at : OneResult promised.words.round_at.ended crate.words.round_at.Reads.Learnt
words-round-at κs a x y = only same

pub words_float_at : OneResult promised.words.float_at.ended crate.words.float_at.Reads.Learnt
words_float_at κs a x y = only same

pub words_sixteen_at : OneResult promised.words.sixteen_at.ended crate.words.sixteen_at.Reads.Learnt
words_sixteen_at κs a x y = only same

pub words-word-of : OneResult promised.words.word_of.ended crate.words.word_of.Reads.Learnt
words-word-of κs a x y = only same

pub words-word-of-set : OneResult promised.words.word_of_set.ended crate.words.word_of_set.Reads.Learnt
words-word-of-set κs a x y = only (first same)

pub words-word-of-byte : OneResult promised.words.word_of_byte.ended crate.words.word_of_byte.Reads.Learnt
words-word-of-byte κs a x y = only (first same)

pub words-word-of-flag : OneResult promised.words.word_of_flag.ended crate.words.word_of_flag.Reads.Learnt
words-word-of-flag κs a x y = only same
