-- `commons::comparing::stands_at`. Assumes nothing.
use native.Mathlib.Omega.{arith}
use mathlib.Core.Path.{◌∙◌}
use lib.Dec.{eqb}
use Rattle.std.specs.List.{starts_with}
use Rattle.commons.proofs.Stands.{no_room_lem, in-rest}
use Rattle.commons.proofs.comparing.stands_at.Goals as goal

pub returns-in-Some : goal.returns-in-Some
returns-in-Some c =
    let a = c.args in
    let w = c.in-Some.ensures.lookup.0 in
    in-rest a.l.now a.at a.s.now w.0 _ (c.starts_with.ensures.value ∙ λ i. starts_with (λ x y. eqb x y) (w.2 i) a.s.now)

pub returns-in-None : goal.returns-in-None
returns-in-None c = let a = c.args in no_room_lem a.l.now a.at a.s.now (omega (arith, c.in-None.ensures.lookup.0))
