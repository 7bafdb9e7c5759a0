-- `seats::PlayerBitSet::count`: the count is what bits::count ensures. Assumes nothing.
use Rattle.seats.proofs.PlayerBitSet.count.Goals as goal

pub returns : goal.returns
returns c = c.count.ensures
