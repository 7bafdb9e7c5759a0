-- `journal::laying::fill_from`: the block in front of what stands behind it. Assumes nothing.
use mathlib.Core.Path.{sym}
use lib.Seq.{length-take-le}
use Rattle.journal.specs.Lay.{block_laid}
use Rattle.journal.proofs.LawsLay.{front_long, front-most, front}
use Rattle.journal.proofs.laying.fill_from.Goals as goal

pub slice_bounds-fill_block-end-2 : goal.slice_bounds-fill_block-end-2
slice_bounds-fill_block-end-2 c = sym (length-take-le 512 c.args.out.now c.requires)

pub slice_bounds-fill_block-end-3 : goal.slice_bounds-fill_block-end-3
slice_bounds-fill_block-end-3 c = front_long c.args.rest.now _ c.min-used.ensures

pub fill_block-requires : goal.fill_block-requires
fill_block-requires c = record { out_len = length-take-le 512 c.args.out.now c.requires; entries_len_bound = front-most c.args.rest.now _ c.min-used.ensures }

pub returns : goal.returns
unfolding block_laid
returns c =
    rw (c.fill_block.ensures, front _ _ c.min-used.ensures)
