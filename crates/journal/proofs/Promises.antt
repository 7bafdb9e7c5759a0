-- Any pair of results that the `ensures` of a public function allows is equal, each by the one law `same`. Assumes nothing.
use Rattle.commons.proofs.OneResult.{OneResult, same, only, ◌and◌, past}
use Rattle.journal.proofs as crate
use Rattle.journal.specs.contracts as promised

-- ---- src/block.rt
pub is_same_lem : OneResult promised.block.Title.is_same.ended crate.block.Title.is_same.Reads.Learnt
is_same_lem κs a x y = only same

pub is-edition : OneResult promised.block.is_edition.ended crate.block.is_edition.Reads.Learnt
is-edition κs a x y = only same

pub is_block : OneResult promised.block.is_block.ended crate.block.is_block.Reads.Learnt
is_block κs a x y = only same

pub read-block : OneResult promised.block.read_block.ended crate.block.read_block.Reads.Learnt
read-block κs a x y = only same

-- ---- src/hand.rt
pub write_hand : OneResult promised.hand.write_hand.ended crate.hand.write_hand.Reads.Learnt
write_hand κs a x y = same and past (past (only same))

pub read-hand : OneResult promised.hand.read_hand.ended crate.hand.read_hand.Reads.Learnt
read-hand κs a x y = only same

pub hand-entry : OneResult promised.hand.hand_entry.ended crate.hand.hand_entry.Reads.Learnt
hand-entry κs a x y = only same

-- ---- src/laying.rt
pub lay-block : OneResult promised.laying.lay_block.ended crate.laying.lay_block.Reads.Learnt
lay-block κs a x y = same and past (past (past (only same)))

-- ---- src/reading.rt
pub line_at : OneResult promised.reading.line_at.ended crate.reading.line_at.Reads.Learnt
line_at κs a x y = only same

-- ---- src/sums.rt
pub check-bytes : OneResult promised.sums.check_bytes.ended crate.sums.check_bytes.Reads.Learnt
check-bytes κs a x y = only same

-- ---- src/tape.rt
pub put-line : OneResult promised.tape.put_line.ended crate.tape.put_line.Reads.Learnt
put-line κs a x y = same and only same
