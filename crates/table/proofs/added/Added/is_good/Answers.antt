-- `table::added::Added::is_good`: the key's own test. Assumes nothing.
use Rattle.table.specs.Added.{good_added}
use Rattle.table.proofs.added.Added.is_good.Goals as goal

pub returns : goal.returns
unfolding good_added
returns c = c.is_good.ensures
