-- Any pair of results that the `ensures` of a public function allows is equal, each by the one law `same`. The checker writes `ended`, the function's
-- signature, and `Learnt`, what a caller learns from its `ensures`. `.ci/functions --check` asks a line for each public function. Assumes nothing.
use Rattle.commons.proofs.OneResult.{OneResult, same, only}
use Rattle.seats.proofs as crate
use Rattle.seats.specs.contracts as promised

-- ---- src/bits.rt
pub has : OneResult promised.bits.has.ended crate.bits.has.Reads.Learnt
has κs a x y = only same

pub up_to : OneResult promised.bits.up_to.ended crate.bits.up_to.Reads.Learnt
up_to κs a x y = only same

pub bits-count : OneResult promised.bits.count.ended crate.bits.count.Reads.Learnt
bits-count κs a x y = only same

pub with : OneResult promised.bits.with.ended crate.bits.with.Reads.Learnt
with κs a x y = only same

pub without : OneResult promised.bits.without.ended crate.bits.without.Reads.Learnt
without κs a x y = only same

pub with_if_lem : OneResult promised.bits.with_if.ended crate.bits.with_if.Reads.Learnt
with_if_lem κs a x y = only same

pub without_if_lem : OneResult promised.bits.without_if.ended crate.bits.without_if.Reads.Learnt
without_if_lem κs a x y = only same

pub is_below : OneResult promised.bits.is_below.ended crate.bits.is_below.Reads.Learnt
is_below κs a x y = only same

pub next : OneResult promised.bits.next.ended crate.bits.next.Reads.Learnt
next κs a x y = only same

-- ---- src/lib.rt
pub new : OneResult promised.PlayerBitSet.new.ended crate.PlayerBitSet.new.Reads.Learnt
new κs a x y = only same

pub default : OneResult promised.PlayerBitSet.default.ended crate.PlayerBitSet.default.Reads.Learnt
default κs a x y = only same

pub player_bit-set-count : OneResult promised.PlayerBitSet.count.ended crate.PlayerBitSet.count.Reads.Learnt
player_bit-set-count κs a x y = only same

pub empty : OneResult promised.PlayerBitSet.empty.ended crate.PlayerBitSet.empty.Reads.Learnt
empty κs a x y = only same

pub enable : OneResult promised.PlayerBitSet.enable.ended crate.PlayerBitSet.enable.Reads.Learnt
enable κs a x y = only same

pub disable : OneResult promised.PlayerBitSet.disable.ended crate.PlayerBitSet.disable.Reads.Learnt
disable κs a x y = only same

pub get : OneResult promised.PlayerBitSet.get.ended crate.PlayerBitSet.get.Reads.Learnt
get κs a x y = only same

pub ones : OneResult promised.PlayerBitSet.ones.ended crate.PlayerBitSet.ones.Reads.Learnt
ones κs a x y = only same

pub bitor : OneResult promised.PlayerBitSet.bitor.ended crate.PlayerBitSet.bitor.Reads.Learnt
bitor κs a x y = only same

pub bitand : OneResult promised.PlayerBitSet.bitand.ended crate.PlayerBitSet.bitand.Reads.Learnt
bitand κs a x y = only same
