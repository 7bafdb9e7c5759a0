-- `layout::standing::table`: by the room. Assumes nothing.
use mathlib.Core.Path.{sym, ◌∙◌}
use mathlib.Core.Bool.{cond}
use Rattle.table.specs.With.{no_table}
use Rattle.layout.specs.Standing.{table_at, table_in}
use Rattle.layout.proofs.standing.table.Goals as goal

pub returns-then-is_room : goal.returns-then-is_room
unfolding table_in
returns-then-is_room c =
    let a = c.args in
    c.table_at.ensures ∙ λ i. cond ((sym c.if-is_room.true ∙ c.is_room.ensures) i) (table_at a.floats.now a.numbers.now) no_table

pub returns : goal.returns
unfolding table_in
returns c =
    let a = c.args in
    c.none.ensures ∙ λ i. cond ((sym c.if-is_room.false ∙ c.is_room.ensures) i) (table_at a.floats.now a.numbers.now) no_table
