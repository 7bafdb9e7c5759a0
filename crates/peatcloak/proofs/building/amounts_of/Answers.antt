-- `peatcloak::building::amounts_of`: the list as an array of 16. Assumes nothing.
use Rattle.peatcloak.proofs.building.amounts_of.Goals as goal

pub returns : goal.returns
returns c = rw (c.then_some.ensures, c.of_slice-l.ensures)
