-- `journal::hand::write_hand`: the blocks that the hand needs, where there is room. Assumes nothing.
use mathlib.Core.Path.{sym, ◌∙◌}
use native.Mathlib.Omega.{arith}
use borrow.Author.Tests.{lt-ltb, le-ltb}
use Rattle.std.proofs.lemmas.Result.{err_from_is_err_and}
use Rattle.journal.specs.Hand.{room, writes_into, bytes_after, hand_bytes}
use Rattle.journal.proofs.LawsWrites.{written}
use Rattle.journal.proofs.hand.write_hand.Goals as goal

pub returns-in_err-n : goal.returns-in_err-n
unfolding writes_into room bytes_after
returns-in_err-n c =
    let p = err_from_is_err_and c.from_residual.result c.from_residual.ensures.1 in
    record { answer = rw (p.1, p.2, sym c.in_err-n.ensures); bytes = rw (sym c.in_err-n.ensures) }

pub overflow_mul-n : goal.overflow_mul-n
overflow_mul-n c = let w = written _ _ _ (sym c.in_ok-n.ensures) in omega arith

pub returns-then-out-n : goal.returns-then-out-n
unfolding writes_into room bytes_after
returns-then-out-n c =
    let e = lt-ltb _ _ c.if-out-n.true in
    record { answer = simp (sym c.in_ok-n.ensures, e); bytes = simp (sym c.in_ok-n.ensures, e) }

pub put_blocks-requires : goal.put_blocks-requires
put_blocks-requires c =
    let w = written _ _ _ (sym c.in_ok-n.ensures) in
    record { n_value = w.0; tape_len_bound = w.1; n_in_bounds = c.if-out-n.false }

pub returns : goal.returns
unfolding writes_into room bytes_after hand_bytes
returns c =
    let e = le-ltb _ _ c.if-out-n.false in
    let w = written _ _ _ (sym c.in_ok-n.ensures) in
    record { answer = simp (sym c.in_ok-n.ensures, e); bytes = c.put_blocks.ensures ∙ simp (sym c.in_ok-n.ensures, e) (rw w.0) }
