-- `journal::fill::block_of`: zeros, head, entries, check. Assumes nothing.
use Prim.Native.Nat.{◌<◌}
use native.Mathlib.Omega.{arith}
use Rattle.journal.proofs.LawsPut.{from-zeros, filled, bit-small}
use Rattle.journal.proofs.fill.block_of.Goals as goal

pub returns : goal.returns
returns c =
    let hc : c.args.title.key.code < 65536 = omega (arith, c) in
    let hy : c.args.title.key.year < 65536 = omega (arith, c) in
    let he : c.args.title.edition < 256 = omega (arith, c) in
    rw c.check_bytes-check.ensures (filled _ _ _ _ c.requires hc hy c.ranges.index.fits (bit-small c.args.last) he _ _ _ from-zeros c.put_head.ensures c.put_entries.ensures)
