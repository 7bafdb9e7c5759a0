-- `commons::copying::copy`: after k turns the first k places are laid. Assumes nothing.
use Prim.Native.Nat.{ℕ, ◌+◌, ◌-◌, ◌<◌}
use native.Mathlib.Omega.{arith}
use mathlib.Core.Path.{refl, sym, ◌∙◌}
use lib.ListN.{get_or, drop, length, length-set}
use Rattle.std.proofs.lemmas.List.{get_or_default, get_or-take, get_or-drop, length-take, length-drop}
use Rattle.commons.specs.Filled.{laid}
use Rattle.commons.proofs.Filled.{laid_none, laid_next, laid_end}
use Rattle.commons.proofs.copying.copy.Goals as goal

pub loop-k-init : goal.loop-k-init
loop-k-init g c = (refl, λ d. laid_none _ _ _)

pub loop-k-preserved : goal.loop-k-preserved
loop-k-preserved g c =
    let a = c.args in
    let inv = c.loop-k.invariant in
    let rest = drop a.from a.s.now in
    let n = a.from + c.shared-m.result - a.from in
    let long = length-take n rest in
    let left = length-drop a.from a.s.now in (
      simp length-set inv.0,
      λ d. laid_next _ _ _ _ _ _ (inv.1 d) (
          c.x-item.is
          ∙ get_or-take n rest c.loop-k.k _ (omega (arith, long, c.loop-k-test.true))
          ∙ get_or-drop a.from a.s.now c.loop-k.k _
          ∙ get_or_default a.s.now (a.from + c.loop-k.k) _ d (omega (arith, long, left, c.loop-k-test.true))
          ),
    )

pub returns-after-loop-k : goal.returns-after-loop-k
returns-after-loop-k g c d =
    let a = c.args in
    let inv = c.loop-k.invariant in
    let long = length-take (a.from + c.shared-m.result - a.from) (drop a.from a.s.now) in
    let left = length-drop a.from a.s.now in
    rw (← c.shared-m.ensures) (laid_end _ _ _ _ c.shared-m.result _ (inv.1 d) (omega (arith, long, left, c.shared-m.ensures, c.loop-k.auto.k-end)) (omega (arith, long, left, c.shared-m.ensures, c.loop-k-test.false)))

pub returns-else-m-ne0 : goal.returns-else-m-ne0
returns-else-m-ne0 g c d =
    let a = c.args in
    laid_none a.at a.to.now _
    ∙ (λ i. laid a.at ((sym c.if-m-ne0.false ∙ c.shared-m.ensures) i) a.to.now (λ k. get_or a.s.now (a.from + k) d))
