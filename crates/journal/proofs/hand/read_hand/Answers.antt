-- `journal::hand::read_hand`: test by test. Assumes nothing.
use mathlib.Core.Path.{sym, ◌∙◌}
use native.Mathlib.Omega.{arith}
use Rattle.journal.proofs.LawsReads.{no_blocks, nothing, bad-block, bad-lines, a_hand, last-used}
use Rattle.journal.proofs.hand.read_hand.Goals as goal

pub returns-then-bytes-ne0 : goal.returns-then-bytes-ne0
returns-then-bytes-ne0 c = no_blocks _ c.if-bytes-ne0.true

pub returns-then-n-lt1 : goal.returns-then-n-lt1
returns-then-n-lt1 c = nothing _ c.if-bytes-ne0.false c.if-n-lt1.true

pub returns-then-not-blocks_fit : goal.returns-then-not-blocks_fit
returns-then-not-blocks_fit c = bad-block _ c.if-bytes-ne0.false c.if-n-lt1.false (sym c.blocks_fit.ensures ∙ c.if-not-blocks_fit.true)

pub overflow_add-entries : goal.overflow_add-entries
overflow_add-entries c =
    let used = last-used _ (sym c.blocks_fit.ensures ∙ c.if-not-blocks_fit.false) c.if-n-lt1.false in
    let is = c.from-used.ensures in
    omega arith

pub is_spelt_in-requires : goal.is_spelt_in-requires
is_spelt_in-requires c =
    let used = last-used _ (sym c.blocks_fit.ensures ∙ c.if-not-blocks_fit.false) c.if-n-lt1.false in
    let is = c.from-used.ensures in
    record { le_total = omega arith; total_bound = omega arith }

pub returns-then-not-is_spelt_in : goal.returns-then-not-is_spelt_in
returns-then-not-is_spelt_in c =
    bad-lines _ c.if-bytes-ne0.false c.if-n-lt1.false (sym c.blocks_fit.ensures ∙ c.if-not-blocks_fit.false) _ (rw c.from-used.ensures) (sym c.is_spelt_in.ensures ∙ c.if-not-is_spelt_in.true)

pub returns : goal.returns
returns c =
    a_hand _ c.if-bytes-ne0.false c.if-n-lt1.false (sym c.blocks_fit.ensures ∙ c.if-not-blocks_fit.false) _ (rw c.from-used.ensures) (sym c.is_spelt_in.ensures ∙ c.if-not-is_spelt_in.false) _ c.title_at-title.ensures
