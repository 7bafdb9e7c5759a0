-- `peatcloak::journal_calls::peatcloak_write_block`: where out has a place and index and title are in range, the block laid and told. Assumes nothing.
use Rattle.peatcloak.proofs.LawsWriting.{block-done, block-nothing}
use Rattle.peatcloak.proofs.journal_calls.peatcloak_write_block.Goals as goal

pub returns-then-out-index : goal.returns-then-out-index
returns-then-out-index c =
    let a = c.args in
    let t' = block-done a.title.now a.index a.rest.now a.bytes.now a.out.now _ c.title_fits.ensures _ _ _ _ _ _ c.if-out-index.true c.title_of-of.ensures c.index_of.ensures c.lay_block-laid.ensures.answer c.lay_block-laid.ensures.bytes c.tell_block.ensures.value c.tell_block.ensures.out_after in record { value = t'.0; bytes_after = t'.1.0; out_after = t'.1.1 }

pub returns : goal.returns
returns c =
    let a = c.args in
    let t' = block-nothing a.title.now a.index a.rest.now a.bytes.now a.out.now _ c.title_fits.ensures c.if-out-index.false in record { value = t'.0; bytes_after = t'.1.0; out_after = t'.1.1 }
