-- `console::opening::open_table`: the builder is told each number in turn. Assumes nothing.
use Rattle.std.proofs.Common.{ap, ◌∙◌, arith}
use Rattle.builder.specs.Build.{build_of}
use Rattle.console.proofs.LawsOpening.{counted, stacks-fit, stacks-counted, opens, opens_not}
use Rattle.console.proofs.opening.open_table.Goals as goal

pub overflow_sub-n : goal.overflow_sub-n
overflow_sub-n c = omega (arith, (counted c.args.count c.if-count.true).0)

pub slice_bounds-stacks-end : goal.slice_bounds-stacks-end
slice_bounds-stacks-end c =
    stacks-fit _ c.args.count _ (counted c.args.count c.if-count.true).1 (omega (arith, c.well_formed)) c.amounts_from-stacks.ensures

pub slice_bounds-stacks-end-then-count : goal.slice_bounds-stacks-end-then-count
slice_bounds-stacks-end-then-count c =
    stacks-counted _ c.args.count _ (counted c.args.count c.if-count.true).1 (omega (arith, c.well_formed)) c.amounts_from-stacks.ensures

pub returns-then-count : goal.returns-then-count
returns-then-count c =
    c.build.ensures
    ∙ ap build_of (simp (c.stacks.ensures, c.ante.ensures, c.small_blind.ensures, c.big_blind.ensures, c.dealer_idx.ensures, c.hand_key.ensures, c.new.ensures, c.amounts_from-stacks.ensures))
    ∙ opens _ _ _ c.if-count.true

pub returns : goal.returns
returns c = let a = c.args in rw c.none.ensures (opens_not a.key a.count a.numbers c.if-count.false)
