-- `journal::sums::check_bytes`: after i turns the sums of the first i bytes and of their running totals. Assumes nothing.
use Prim.Native.Nat.{◌<◌}
use native.Mathlib.Omega.{arith}
use lib.Seq.{get_or-take, length-take-le}
use Rattle.journal.proofs.LawsCheck.{sum-none, run_none, sum-next, run_next, too_short, summed}
use Rattle.journal.proofs.sums.check_bytes.Goals as goal

pub returns-then-block-lt510 : goal.returns-then-block-lt510
returns-then-block-lt510 c = too_short _ c.if-block-lt510.true

pub loop-b-init : goal.loop-b-init
loop-b-init c = (omega arith, sum-none _, run_none _, omega arith, omega arith)

pub loop-b-preserved : goal.loop-b-preserved
loop-b-preserved c =
    let long = length-take-le 510 c.args.block.now c.if-block-lt510.false in
    let i : c.loop-b.b-index < 510 = omega arith in
    let fits = c.type_inv.block c.loop-b.b-index in
    let more = sum-next _ _ _ c.loop-b.invariant.1 in
    rw (c.from-sum.ensures, get_or-take 510 c.args.block.now c.loop-b.b-index 0 i) (
      omega arith,
      more,
      run_next _ _ _ _ c.loop-b.invariant.2 more,
      omega arith,
      omega arith,
    )

pub returns : goal.returns
returns c =
    let long = length-take-le 510 c.args.block.now c.if-block-lt510.false in
    summed _ _ _ _ c.if-block-lt510.false c.loop-b.invariant.0 (omega arith) c.loop-b.invariant.1 c.loop-b.invariant.2
