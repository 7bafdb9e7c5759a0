-- `rounds::walking::next`: at the last seat the sum is n. Assumes nothing.
use native.Mathlib.Nat.{mod-eq_of_lt, mod_self}
use native.Mathlib.Omega.{arith}
use Prim.Native.Nat.{◌+◌}
use mathlib.Core.Path.{◌≡◌, sym}
use Rattle.rounds.proofs.walking.next.Goals as goal

pub returns-then-on-n : goal.returns-then-on-n
returns-then-on-n c = sym (mod-eq_of_lt c.if-on-n.true)

pub returns-else-on-n : goal.returns-else-on-n
returns-else-on-n c = let e : c.args.at + 1 ≡ c.args.n = omega arith in sym (rw e (mod_self c.args.n))
