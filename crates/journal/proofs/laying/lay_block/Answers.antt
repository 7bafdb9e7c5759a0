-- `journal::laying::lay_block`: what was judged, where there is room. Assumes nothing.
use mathlib.Core.Path.{sym, ◌∙◌}
use borrow.Author.Tests.{lt-ltb, le-ltb}
use Rattle.std.proofs.lemmas.Result.{err_from_is_err_and}
use Rattle.journal.specs.Lay.{lay_room, lays_into, lay_after}
use Rattle.journal.proofs.laying.lay_block.Goals as goal

pub returns-in_err-laid : goal.returns-in_err-laid
unfolding lays_into lay_room lay_after
returns-in_err-laid c =
    let p = err_from_is_err_and c.from_residual.result c.from_residual.ensures.1 in
    record { answer = rw (p.1, p.2, sym c.in_err-laid.ensures); bytes = rw (sym c.in_err-laid.ensures) }

pub returns-then-out-lt512 : goal.returns-then-out-lt512
unfolding lays_into lay_room lay_after
returns-then-out-lt512 c =
    let e = lt-ltb _ 512 c.if-out-lt512.true in
    record { answer = simp (sym c.in_ok-laid.ensures, e); bytes = simp (sym c.in_ok-laid.ensures, e) }

pub returns : goal.returns
unfolding lays_into lay_room lay_after
returns c =
    let e = le-ltb _ 512 c.if-out-lt512.false in
    record { answer = simp (sym c.in_ok-laid.ensures, e); bytes = c.fill_from.ensures ∙ simp (sym c.in_ok-laid.ensures, e) }
