-- `peatcloak::bet::put_floats`: store by store. Assumes nothing.
use lib.ListN.{length-set}
use mathlib.Core.Path.{refl}
use native.Mathlib.Omega.{arith}
use Rattle.peatcloak.specs.Put.{floats_with}
use Rattle.peatcloak.proofs.bet.put_floats.Goals as goal

pub bounds-floats-4 : goal.bounds-floats-4
bounds-floats-4 c = simp length-set (omega arith)

pub bounds-floats-5 : goal.bounds-floats-5
bounds-floats-5 c = simp length-set (omega arith)

pub bounds-floats-6 : goal.bounds-floats-6
bounds-floats-6 c = simp length-set (omega arith)

pub bounds-floats-i : goal.bounds-floats-i
bounds-floats-i c = simp length-set (omega arith)

pub bounds-floats-i-2 : goal.bounds-floats-i-2
bounds-floats-i-2 c = simp length-set (omega arith)

pub bounds-floats-i-3 : goal.bounds-floats-i-3
bounds-floats-i-3 c = simp length-set (omega arith)

pub returns : goal.returns
unfolding floats_with
returns c = refl
