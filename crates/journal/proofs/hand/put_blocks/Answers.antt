-- `journal::hand::put_blocks`: after i turns the first i blocks. Assumes nothing.
use Prim.Native.Nat.{ℕ, ◌+◌, ◌*◌, ◌≤◌, ◌-◌}
use mathlib.Core.Path.{refl, ◌∙◌}
use native.Mathlib.Omega.{arith}
use borrow.Rule.Slice.PartMut.{same_len_mid}
use lib.ListN.{length}
use Rattle.journal.proofs.LawsWrites.{at_long, at_block}
use Rattle.journal.proofs.LawsHand.{joined-none, blocks_next, blocks_end, part-long, short}
use Rattle.journal.proofs.hand.put_blocks.Goals as goal

pub loop-i-init : goal.loop-i-init
loop-i-init c = (omega arith, refl, joined-none _ _)

pub fill_block-requires : goal.fill_block-requires
fill_block-requires c =
    let room : 512 * c.loop-i.i + 512 ≤ length c.loop-i.out = omega arith in
    record { out_len = part-long _ _ room; entries_len_bound = short _ _ _ c.part_end-end.ensures.within.2 c.part_end-end.ensures.within.1 }

pub loop-i-preserved : goal.loop-i-preserved
loop-i-preserved c =
    (omega arith, same_len_mid {X = ℕ} (512 * c.loop-i.i) (512 * c.loop-i.i + 512 - 512 * c.loop-i.i) c.loop-i.out c.fill_block.new.out c.fill_block.auto.out ∙ c.loop-i.invariant.1, blocks_next _ _ _ (λ j h. at_long _ _ _ j) _ _ c.loop-i.invariant.2 (c.fill_block.ensures ∙ at_block _ _ _ _ _ c.part_end-end.ensures.within c.part_end-end.ensures.cut))

pub shape_of-out : goal.shape_of-out
shape_of-out c = c.loop-i.invariant.1

pub returns : goal.returns
returns c = blocks_end _ _ _ _ _ c.loop-i.invariant.2 c.loop-i.invariant.0 c.loop-i-test.false
