-- `peatcloak::settling::ranks_of`: a copy to the front. Assumes nothing.
use Rattle.peatcloak.proofs.settling.ranks_of.Goals as goal

pub returns : goal.returns
returns c = c.copy.ensures 0
