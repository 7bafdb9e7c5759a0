-- `builder::GameStateBuilder::data_for`: each case of the given data, the list and the set as the callees ensure. Assumes nothing.
use lib.Ieee.{of_bits}
use Rattle.builder.specs.Build.{data_for}
use Rattle.builder.proofs.GameStateBuilder.data_for.Goals as goal

pub returns-in-Some : goal.returns-in-Some
unfolding data_for of_bits
returns-in-Some c = simp (c.in-Some.is, c.kept-kept.ensures, c.stacks_told-n.ensures)

pub returns-in-None : goal.returns-in-None
unfolding data_for of_bits
returns-in-None c = simp (c.in-None.is, c.up_to.ensures, c.big_blind_told.ensures, c.stacks_told-n.ensures)
