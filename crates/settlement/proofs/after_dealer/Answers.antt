-- `settlement::after_dealer`: the next seat where there is one, else seat 0: one place on, round the table. Assumes nothing.
use Rattle.std.proofs.Common.{◌≡◌, ◌+◌, sym, mod-eq_of_lt, arith, le-ltb, lt-ltb}
use native.Mathlib.Nat.{mod_self}
use Rattle.settlement.specs.Hand.{after_dealer}
-- the next seat
use Rattle.settlement.proofs.after_dealer.Goals as goal

pub returns-then-next-n : goal.returns-then-next-n
unfolding after_dealer
returns-then-next-n c = rw (lt-ltb _ _ c.if-dealer-n.true) (sym (mod-eq_of_lt c.if-next-n.true))

pub returns-else-next-n : goal.returns-else-next-n
unfolding after_dealer
returns-else-next-n c =
    let a = c.args in
    let e : a.dealer + 1 ≡ a.n = omega (arith, c.if-dealer-n.true) in
    rw (lt-ltb _ _ c.if-dealer-n.true, e) (sym (mod_self a.n))

pub returns-else-dealer-n : goal.returns-else-dealer-n
unfolding after_dealer
returns-else-dealer-n c = rw (le-ltb _ _ c.if-dealer-n.false)
