-- `peatcloak::given_added::of`: the key, where one is given. Assumes nothing.
use Rattle.table.specs.Added.{added_of}
use Rattle.peatcloak.proofs.given_added.of.Goals as goal

pub returns : goal.returns
returns c = λ i. added_of (c.key_of-key.ensures i)
