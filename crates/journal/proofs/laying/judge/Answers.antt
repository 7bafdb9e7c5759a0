-- `journal::laying::judge`: test by test. Assumes nothing.
use mathlib.Core.Path.{◌∙◌}
use mathlib.Core.Bool.{true, false}
use Rattle.journal.proofs.LawsLay.{front_long, tests, full, no_block, not-kept, is_last, is-more}
use Rattle.journal.proofs.laying.judge.Goals as goal

pub slice_bounds-are_entries-end : goal.slice_bounds-are_entries-end
slice_bounds-are_entries-end c = front_long c.args.rest.now _ c.min-used.ensures

pub returns-then-not-is_edition-filled : goal.returns-then-not-is_edition-filled
returns-then-not-is_edition-filled c =
    no_block _ _ _ (tests c.args.title c.args.index c.args.rest.now _ c.min-used.ensures _ _ false c.is_edition.ensures c.are_entries.ensures c.if-not-is_edition-filled.true)

pub returns-then-is_key-left : goal.returns-then-is_key-left
returns-then-is_key-left c =
    not-kept _ _ _ (tests c.args.title c.args.index c.args.rest.now _ c.min-used.ensures _ _ true c.is_edition.ensures c.are_entries.ensures c.if-not-is_edition-filled.false) (full c.args.title c.args.index c.args.rest.now _ c.saturating_sub-left.result true c.is_key.ensures (c.saturating_sub-left.ensures ∙ rw c.from.ensures) c.if-is_key-left.true)

pub returns-then-rest-le120 : goal.returns-then-rest-le120
returns-then-rest-le120 c =
    is_last _ _ _ (tests c.args.title c.args.index c.args.rest.now _ c.min-used.ensures _ _ true c.is_edition.ensures c.are_entries.ensures c.if-not-is_edition-filled.false) (full c.args.title c.args.index c.args.rest.now _ c.saturating_sub-left.result false c.is_key.ensures (c.saturating_sub-left.ensures ∙ rw c.from.ensures) c.if-is_key-left.false) c.if-rest-le120.true

pub returns : goal.returns
returns c =
    is-more _ _ _ (tests c.args.title c.args.index c.args.rest.now _ c.min-used.ensures _ _ true c.is_edition.ensures c.are_entries.ensures c.if-not-is_edition-filled.false) (full c.args.title c.args.index c.args.rest.now _ c.saturating_sub-left.result false c.is_key.ensures (c.saturating_sub-left.ensures ∙ rw c.from.ensures) c.if-is_key-left.false) c.if-rest-le120.false
