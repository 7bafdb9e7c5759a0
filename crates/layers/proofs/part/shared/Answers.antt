-- `layers::part::shared`: each turn gives one place more its share; k counts the set's seats so far. Assumes nothing.
use mathlib.Core.Path.{◌≡◌, refl}
use native.Mathlib.Nat.{div-le_self}
use native.Mathlib.Omega.{arith}
use Rattle.seats.specs.Bits.{count_to}
use Rattle.commons.specs.Filled.{filled}
use Rattle.commons.proofs.Filled.{filled_next}
use Rattle.layers.proofs.Seats.{count-le, count_most, count_next}
use Rattle.layers.proofs.Sharing.{share-made}
use Rattle.layers.proofs.part.shared.Goals as goal

pub loop-i-init : goal.loop-i-init
unfolding count_to filled
loop-i-init c = (omega arith, refl, refl)

pub ahead-p-requires : goal.ahead-p-requires
ahead-p-requires c =
    let set = c.args.set in
    let n = c.args.n in
    record { f_le_k = λ l. omega (arith, count_most c.args.first c.loop-i.i set l); f_le_w = omega (arith, count_most c.args.first n set c.requires.n_bound.1); k_bound = omega (arith, count-le n set, count-le c.loop-i.i set) }

pub seat_share-requires : goal.seat_share-requires
seat_share-requires c =
    omega (arith, div-le_self c.args.amount c.count_below-w.result)

pub overflow_add-out : goal.overflow_add-out
overflow_add-out c =
    omega (arith, c.requires.by_index c.loop-i.i (omega arith))

pub overflow_add-k : goal.overflow_add-k
overflow_add-k c =
    omega (arith, count-le c.loop-i.i c.args.set)

pub loop-i-preserved : goal.loop-i-preserved
loop-i-preserved c =
    let w = c.count_below-w.ensures in
    let f = c.count_below-f.ensures in
    let k = c.loop-i.invariant.1 in (
      omega arith,
      count_next _ _ _ _ k (rw (c.only-k.ensures.0, c.has-mine.ensures)),
      filled_next _ _ _ _ _ c.loop-i.invariant.2
          (rw (c.seat_share.ensures.0, c.ahead-p.ensures, c.has-mine.ensures, share-made _ _ _ _ _ _ _ _ w f k)),
    )

pub returns : goal.returns
returns c =
    let e : c.loop-i.i ≡ 16 = omega arith in
    rw e at c.loop-i.invariant.2
