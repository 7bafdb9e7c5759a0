-- `builder::GameStateBuilder::verdict`: the rows part by part. Assumes nothing.
use Prim.Native.Nat.{min}
use mathlib.Core.Path.{◌≡◌, sym, ◌∙◌}
use Rattle.std.specs.Prelude.{Err}
use Rattle.std.proofs.Common.{rules}
use Rattle.refusals.specs.Rows.{judge}
use Rattle.builder.specs.Build.{board_told, board_len_of}
use Rattle.builder.specs.Cards.{card_rows}
use Rattle.builder.proofs.Order.{rows-parts}
use Rattle.builder.proofs.GameStateBuilder.verdict.Goals as goal

pub returns-in_err-amounts_fault : goal.returns-in_err-amounts_fault
returns-in_err-amounts_fault c =
    let e : c.from_residual-in_err-amounts_fault.result ≡ Err c.in_err-amounts_fault.field-0.0 = search rules in
    e ∙ sym (rows-parts c.args.self c.args.sound ∙ rw (sym c.told_fault.ensures ∙ c.in_ok-told_fault.was, sym c.amounts_fault.ensures ∙ c.in_err-amounts_fault.was))

pub returns-in_err-lists_fault : goal.returns-in_err-lists_fault
returns-in_err-lists_fault c =
    let e : c.from_residual-in_err-lists_fault.result ≡ Err c.in_err-lists_fault.field-0.0 = search rules in
    e ∙ sym (rows-parts c.args.self c.args.sound ∙ rw (sym c.told_fault.ensures ∙ c.in_ok-told_fault.was, sym c.amounts_fault.ensures ∙ c.in_ok-amounts_fault.was, sym c.lists_fault.ensures ∙ c.in_err-lists_fault.was))

pub returns-in_err-card_fault : goal.returns-in_err-card_fault
returns-in_err-card_fault c =
    let b = c.args.self in
    let given : c.card_fault.result ≡ judge (card_rows (min (board_len_of b) 5) 0 (board_told b).list) = rw (c.card_fault.ensures, c.board_told-board.ensures) in
    let e : c.from_residual-in_err-card_fault.result ≡ Err c.in_err-card_fault.field-0.0 = search rules in
    e ∙ sym (rows-parts c.args.self c.args.sound ∙ rw (sym c.told_fault.ensures ∙ c.in_ok-told_fault.was, sym c.amounts_fault.ensures ∙ c.in_ok-amounts_fault.was, sym c.lists_fault.ensures ∙ c.in_ok-lists_fault.was, sym given ∙ c.in_err-card_fault.was))

pub returns : goal.returns
returns c =
    let b = c.args.self in
    let given : c.card_fault.result ≡ judge (card_rows (min (board_len_of b) 5) 0 (board_told b).list) = rw (c.card_fault.ensures, c.board_told-board.ensures) in
    c.refuse_if.ensures ∙ sym (rows-parts c.args.self c.args.sound ∙ rw (sym c.told_fault.ensures ∙ c.in_ok-told_fault.was, sym c.amounts_fault.ensures ∙ c.in_ok-amounts_fault.was, sym c.lists_fault.ensures ∙ c.in_ok-lists_fault.was, sym given ∙ c.in_ok-card_fault.was, sym c.into.ensures))
