-- `builder::GameStateBuilder::small_blind_or_half`: the code's 2.0 is the definition's. Assumes nothing.
use lib.Ieee.{of_bits}
use Rattle.builder.specs.Build.{small_blind_of}
use Rattle.builder.proofs.GameStateBuilder.small_blind_or_half.Goals as goal

pub returns : goal.returns
unfolding small_blind_of of_bits
returns c = rw (c.unwrap_or.ensures, c.big_blind_told-half.ensures)
