-- `journal::reading::line_at`: none at the end, else a letter and its numbers. Assumes nothing.
use Prim.Native.Nat.{◌+◌}
use mathlib.Core.Path.{ap}
use native.Mathlib.Omega.{arith}
use Rattle.journal.specs.declared.reading.Numbers.{Numbers}
use Rattle.journal.proofs.LawsReading.{numbers-most, at-end, line-there}
use Rattle.journal.proofs.reading.line_at.Goals as goal

pub returns-then-total-i : goal.returns-then-total-i
returns-then-total-i c = rw c.no_words.ensures (at-end _ _ _ c.entry_count-total.ensures c.if-total-i.true)

pub overflow_add-result : goal.overflow_add-result
overflow_add-result c =
    let most = numbers-most c.args.bytes.now (c.args.i + 1) c.entry_count-total.result in
    let is = ap (λ (m : Numbers). m.count) c.numbers_at-n.ensures in
    omega (arith, most, is)

pub returns : goal.returns
returns c =
    line-there _ _ _ c.entry_count-total.ensures c.if-total-i.false _ _ c.hand_entry.ensures c.numbers_at-n.ensures
