-- `console::shown::amount_of`: by the tests; what the conversion does not take is not whole. Assumes nothing.
use Rattle.std.proofs.Common.{T, sym, subst, le-leb}
use lib.Ieee.{of_bits, neg}
use borrow.Author.Tests.{lt-leb}
use Rattle.console.specs.Shown.{amount_of}
use Rattle.console.proofs.LawsShown.{low, high}
use Rattle.console.proofs.shown.amount_of.Goals as goal
use Rattle.console.proofs.shown.amount_of.Goals.{else-n-le16777216-via-then-n-le16777216+else-n-x, else-n-le16777216-via-else-n-le16777216, else-x-via-then-x+else-x-2, else-x-via-else-x}

pub truncating_f32_to_u64-n-requires : goal.truncating_f32_to_u64-n-requires
unfolding of_bits neg
truncating_f32_to_u64-n-requires c = record { lower_bound = subst T (sym c.if-x.true) tt; upper_bound = subst T (sym c.if-x-2.true) tt }

pub returns-then-n-x : goal.returns-then-n-x
unfolding amount_of
returns-then-n-x c = simp (← c.truncating_f32_to_u64-n.ensures, le-leb _ _ c.if-n-le16777216.true, c.if-n-x.true)

pub returns-else-n-le16777216 : goal.returns-else-n-le16777216
unfolding amount_of
returns-else-n-le16777216 c =
    elim c.else-n-le16777216.branch [
      | else-n-le16777216-via-then-n-le16777216+else-n-x w ↦ simp (← c.truncating_f32_to_u64-n.ensures, le-leb _ _ w.if-n-le16777216.true, w.if-n-x.false)
      | else-n-le16777216-via-else-n-le16777216 w ↦ simp (← c.truncating_f32_to_u64-n.ensures, lt-leb _ _ w.if-n-le16777216.false)
    ]

pub returns-else-x : goal.returns-else-x
unfolding of_bits neg
returns-else-x c =
    elim c.else-x.branch [
      | else-x-via-then-x+else-x-2 w ↦ sym (high _ w.if-x-2.false)
      | else-x-via-else-x w ↦ sym (low _ w.if-x.false)
    ]
