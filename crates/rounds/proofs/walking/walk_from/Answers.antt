-- `rounds::walking::walk_from`: what the loop knows is `Stands`, and each end of it is a law there. Assumes nothing.
use native.Mathlib.Nat.{mod-lt}
use native.Mathlib.Omega.{arith}
use mathlib.Core.Path.{sym, ◌∙◌}
use Rattle.rounds.proofs.Loop.{begins, goes_on, found, none}
use Rattle.rounds.proofs.walking.walk_from.Goals as goal

pub next-at-requires : goal.next-at-requires
next-at-requires c = rw c.loop-passed.invariant.place (mod-lt _ (omega (arith, c.requires)))

pub loop-passed-init : goal.loop-passed-init
loop-passed-init c = begins _ _ _ c.requires

pub returns-then-has : goal.returns-then-has
returns-then-has c = found _ _ _ _ _ _ c.loop-passed.invariant c.loop-passed-test.true c.next-at.ensures (sym c.has.ensures ∙ c.if-has.true)

pub loop-passed-preserved : goal.loop-passed-preserved
loop-passed-preserved c = goes_on _ _ _ _ _ _ c.loop-passed.invariant c.loop-passed-test.true c.next-at.ensures (sym c.has.ensures ∙ c.if-has.false)

pub returns : goal.returns
returns c = none _ _ _ _ _ _ c.loop-passed.invariant c.loop-passed-test.false c.next.ensures
