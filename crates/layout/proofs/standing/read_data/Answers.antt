-- `layout::standing::read_data`: by the room, and by whether each word fits. Assumes nothing.
use mathlib.Core.Path.{sym, ◌∙◌}
use Rattle.layout.specs.Standing.{data_read_of}
use Rattle.layout.proofs.standing.read_data.Goals as goal

pub returns-then-data_fits : goal.returns-then-data_fits
unfolding data_read_of
returns-then-data_fits c =
    simp (c.data_at-data.ensures, sym c.is_room.ensures ∙ c.if-is_room.true, sym c.data_fits.ensures ∙ c.if-data_fits.true)

pub returns-then-is_room : goal.returns-then-is_room
unfolding data_read_of
returns-then-is_room c =
    simp (c.data_at-data.ensures, sym c.is_room.ensures ∙ c.if-is_room.true, sym c.data_fits.ensures ∙ c.if-data_fits.false)

pub returns : goal.returns
unfolding data_read_of
returns c =
    simp (c.none.ensures, sym c.is_room.ensures ∙ c.if-is_room.false)
