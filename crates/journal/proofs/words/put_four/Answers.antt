-- `journal::words::put_four`: four places at once. Assumes nothing.
use Prim.Native.Nat.{◌/◌, ◌%◌}
use native.Mathlib.Omega.{arith}
use mathlib.Core.Path.{◌≡◌, ◌∙◌}
use Rattle.journal.specs.Put.{four_put}
use Rattle.journal.proofs.LawsLists.{four_laid}
use Rattle.journal.proofs.words.put_four.Goals as goal

pub returns : goal.returns
unfolding four_put
returns c = rw (c.copy_from_slice.ensures.after, c.to_le_bytes.ensures) (
    four_laid _ _ _ _ _ _ c.requires
    ∙ (let e : c.args.w / 16777216 % 256 ≡ c.args.w / 16777216 = omega (arith, c.ranges.w.fits) in rw e))
