-- `peatcloak::next_round::put_round_floats`: store by store, then the bets. Assumes nothing.
use mathlib.Core.Path.{◌∙◌}
use lib.Ieee.{of_bits}
use lib.ListN.{length-set}
use native.Mathlib.Omega.{arith}
use Rattle.peatcloak.proofs.next_round.put_round_floats.Goals as goal

pub bounds-floats-5 : goal.bounds-floats-5
bounds-floats-5 c = simp length-set (omega arith)

pub bounds-floats-6 : goal.bounds-floats-6
bounds-floats-6 c = simp length-set (omega arith)

pub shape_of-floats : goal.shape_of-floats
shape_of-floats c = c.clear_bets.auto.floats ∙ simp length-set

pub returns : goal.returns
unfolding of_bits
returns c = c.clear_bets.ensures
